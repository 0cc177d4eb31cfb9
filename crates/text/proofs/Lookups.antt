-- Looking up: the name for an address, by its index and by the definition; globals; a number among others.
use mathlib.Core.Path.{◌≡◌, refl, sym, ap₂, ◌∙◌}
use mathlib.Core.Bool.{Bool, true, false, cond, ◌||◌}
use mathlib.Core.Option.{Option, none, some}
use mathlib.Core.List.{List, [], ◌∷◌, ◌++◌, map}
use Prim.Native.Nat.{ℕ, zero, suc, ◌+◌}
use native.Mathlib.Decide.{ℕ_discrete}
use native.Mathlib.Omega.{arith}
use borrow.Author.Tests.{ne_eqb}
use lib.Dec.{eqb}
use Rattle.definition.specs.Edition.{Edition, names}
use Rattle.definition.specs.Lists.{any, among, range}
use Rattle.definition.specs.Words.{part}
use Rattle.definition.specs.Contents.{offset, text, text_at, size, name_word, name_long}
use Rattle.definition.specs.Read.{name_at}
use Rattle.definition.specs.Lookup.{name_for, size_prefix, name_or, global_name}
use denote.Param.Members.{Mut}
use denote.Ref.{Bor}
use Rattle.std.specs.Bool.{⊤}
use Rattle.std.specs.Fn.{CalledAt}
use Rattle.std.specs.Iterator.{YieldsThen}
use Rattle.std.specs.List.{range_with_len, find, list_any, FoldsTo}
use Rattle.std.specs.Option.{MatchOption, option_map}
use Rattle.std.specs.declared.ops.Range.{Range}
use Rattle.std.proofs.iter.Yields.{nat_range_steps}
use Rattle.std.proofs.lemmas.Iterator.{YieldsList-from_range}
use Rattle.std.proofs.lemmas.Iterator.Search.{find_from_yields_List}
use Rattle.std.specs.Prelude.{Option as Answer, Some, None}
use Rattle.std.proofs.Common.{rules}
use Rattle.records.specs.Options.{answer_of}
use Rattle.digits.specs.declared.Radix.TheVariants.{Upper}
use Rattle.digits.specs.Numeral.{numeral}
use Rattle.digits.proofs.Texts.{numeral_is}
use Rattle.text.specs.Supplied.{index_from, name_index, name_text, text_of, is_global, global_text}

-- ---- a search `(0..n).find(..)`, whose closure computes the test of each number
pub find_upto : {F : Type 0} {g : Mut F (Bor ℕ × Unit {0}) Bool} {s : Range ℕ} (u : Range ℕ) {f : F} {r : Answer ℕ} (p : ℕ → Bool) (n : ℕ)
    → ((xs : List ℕ) × (j : F) × YieldsThen nat_range_steps s xs r u × FoldsTo (λ p x q. CalledAt g p x false q) f xs j
    × MatchOption r ⊤ (λ x. (h : F) × CalledAt g j x true h))
    → s ≡ record { start = 0; end = n }
    → ((x : ℕ) (b : Bool) (q : F) → CalledAt g f x b q → (q ≡ f) × (b ≡ p x)) → r ≡ find p (range_with_len 0 n)
find_upto u {f = f} {r = r} p n ran e h = itself r ∙ find_from_yields_List p u f r ran (YieldsList-from_range 0 n n e (omega arith)) h
  where
    itself : (r : Answer ℕ) → r ≡ option_map (λ x. x) r
    itself None = refl
    itself (Some x) = refl

first_from : (f : List ℕ) (a i n : ℕ) → find (λ x. eqb (name_long f x 0) a) (range_with_len i n) ≡ answer_of (index_from f a i n)
unfolding index_from
first_from f a i zero = refl
first_from f a i (suc n) = go (eqb (name_long f i 0) a) (first_from f a (i + 1) n)
  where
    go : (b : Bool) → find (λ x. eqb (name_long f x 0) a) (range_with_len (i + 1) n) ≡ answer_of (index_from f a (i + 1) n)
        → cond b (Some i) (find (λ x. eqb (name_long f x 0) a) (range_with_len (i + 1) n)) ≡ answer_of (cond b (some i) (index_from f a (i + 1) n))
    go true h = refl
    go false h = h

pub first_is : (f : List ℕ) (a n : ℕ) → n ≡ size f names → find (λ x. eqb (name_long f x 0) a) (range_with_len 0 n) ≡ answer_of (name_index f a)
unfolding name_index
first_is f a n e = rw e (first_from f a 0 (size f names))

-- ---- the index is the definition's name
text_at_from : (E : Edition) (f : List ℕ) (a i n : ℕ) → name_for (map (name_at E f) (range i n)) a ≡ text_of f (text E) (index_from f a i n)
unfolding name_for name_at range index_from text_of name_text text_at
text_at_from E f a i zero = refl
text_at_from E f a i (suc n) = go (eqb (name_long f i 0) a) (text_at_from E f a (i + 1) n)
  where
    go : (b : Bool) → name_for (map (name_at E f) (range (i + 1) n)) a ≡ text_of f (text E) (index_from f a (i + 1) n)
        → cond b (some (name_at E f i).text) (name_for (map (name_at E f) (range (i + 1) n)) a)
        ≡ text_of f (text E) (cond b (some i) (index_from f a (i + 1) n))
    go true h = refl
    go false h = h

pub name_is : (E : Edition) (f : List ℕ) (a : ℕ)
    → name_for (map (name_at E f) (range 0 (size f names))) a ≡ text_of f (text E) (name_index f a)
unfolding name_index
name_is E f a = text_at_from E f a 0 (size f names)

-- what `text_part` and `name_text` write, where t is the text's section
pub text_is : (E : Edition) (f : List ℕ) (start n : ℕ) → part f (offset f (text E) + start) n ≡ text_at E f start n
unfolding text_at
text_is E f start n = refl

-- so `is_global` and `global_name` together are `global_name`
pub global_is : (E : Edition) (f : List ℕ) (c n : ℕ)
    → global_name (map (name_at E f) (range 0 (size f names))) c n ≡ cond (is_global c) (some (global_text f (text E) c n)) none
unfolding global_name is_global global_text
global_is E f c n = rw (name_is E f c)

-- ---- what an answer says of the index that it stands for
pub told_some : (o : Option ℕ) (i : ℕ) → answer_of o ≡ Some i → o ≡ some i
told_some none i e = absurd (search rules)
told_some (some j) i e = let q : j ≡ i = cc in rw q

pub told_none : (o : Option ℕ) → answer_of o ≡ None → o ≡ none
told_none none e = refl
told_none (some j) e = absurd (search rules)

-- ---- the returns of `global_name`, by what the lookup answered
module _ (f : List ℕ) (t c n : ℕ) (r : Answer ℕ) (look : r ≡ answer_of (name_index f c)) where
  pub global_unnamed : (x : List ℕ) → x ≡ size_prefix n → r ≡ None → x ++ numeral Upper c ≡ global_text f t c n
  unfolding global_text text_of name_or
  global_unnamed x p e = rw (told_none (name_index f c) (sym look ∙ e), p, numeral_is Upper c)

  pub global_named : (i : ℕ) → r ≡ Some i → name_text f t i ≡ global_text f t c n
  unfolding global_text text_of name_or
  global_named i e = rw (told_some (name_index f c) i (sym look ∙ e))

-- ---- a number among others, as `contains` tests it
same_place : (x y : ℕ) → eqb x y ≡ eqb y x
same_place x y = go (ℕ_discrete x y)
  where
    go : Dec (x ≡ y) → eqb x y ≡ eqb y x
    go (yes e) = rw e
    go (no e) = ne_eqb x y e ∙ sym (ne_eqb y x (λ q. e (sym q)))

pub among_is : (v : ℕ) (s : List ℕ) → list_any (λ y. eqb y v) s ≡ among v s
unfolding among any
among_is v [] = refl
among_is v (x ∷ s) = ap₂ (λ (a b : Bool). a || b) (same_place x v) (among_is v s)

-- the text of a name, by the words that were read
pub name_part : (f : List ℕ) (t i a n : ℕ) → a ≡ name_word f i 2 → n ≡ name_word f i 3 → part f (offset f t + a) n ≡ name_text f t i
unfolding name_text
name_part f t i a n p q = rw (p, q)

-- the same place, named otherwise
pub part_at : (f : List ℕ) (a b n : ℕ) → a ≡ b → part f a n ≡ part f b n
part_at f a b n e = rw e
