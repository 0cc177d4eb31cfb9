-- A range byte by byte: a count goes on by one byte, and the first place of a word is here or one further. What stands before that place, another
-- word, and what stands behind the first are the range with the word replaced. The first sign in the definition's order that a text contains says both
-- whether it compares and what is flipped.
use mathlib.Core.Path.{◌≡◌, refl, sym, ap, ap₂, ◌∙◌}
use mathlib.Core.Bool.{Bool, true, false, cond, false≢true}
use mathlib.Core.Option.{Option, none, some}
use mathlib.Core.List.{List, [], ◌∷◌, ◌++◌, map, append_assoc}
use Prim.Native.Nat.{min, ℕ, zero, suc, ◌+◌, ◌-◌, ◌≤◌, ◌<◌}
use native.Mathlib.Omega.{arith}
use Rattle.std.specs.Prelude.{Option as Answer, Some, None}
use Rattle.std.specs.List.{filter, find}
use Rattle.std.specs.Option.{is_some, option_map}
use lib.ListN.{length, get_or, take, drop}
use lib.Seq.{drop-cons}
use Rattle.definition.specs.Words.{part}
use Rattle.definition.specs.Texts.{begins, contains, replace}
use Rattle.definition.specs.Lists.{count, any, has}
use Rattle.definition.specs.Tokens.{tok}
use Rattle.definition.specs.Negate.{Flip, flips, compares, flip_in}
use Rattle.definition.proofs.Bools.{by_test, cond_some}
use Rattle.definition.proofs.TextLaws.{begins_length}
use Rattle.room.specs.Room.{Room, emit, emit_all, seen}
use Rattle.room.proofs.Laws.{next, done, joined}
use Rattle.sheet.specs.Ranges.{between}
use Rattle.sheet.proofs.Reading.{least_le, length_between}
use Rattle.clips.proofs.Ranges.{drop_between}
use Rattle.comparisons.specs.declared.signs.Sign.{Sign}
use Rattle.comparisons.specs.declared.signs.Sign.TheVariants.{Equal, Unequal, Less, NotLess, Greater, NotGreater}
use Rattle.comparisons.specs.Looks.{place_of, Stands}
use Rattle.comparisons.specs.Signs.{text_of, opposite_of, flip_by, flip_of, first_in}

-- ---- byte by byte
pub count_is : (p q : ℕ → Bool) → ((x : ℕ) → p x ≡ q x) → (l : List ℕ) → length (filter p l) ≡ count q l
unfolding count
count_is p q h [] = refl
count_is p q h (x ∷ l) = go (p x) (q x) (h x) (count_is p q h l)
  where
    go : (a b : Bool) → a ≡ b → length (filter p l) ≡ count q l → length (cond a (x ∷ filter p l) (filter p l)) ≡ cond b (suc (count q l)) (count q l)
    go true true e i = ap suc i
    go true false e i = absurd (false≢true (sym e))
    go false true e i = absurd (false≢true e)
    go false false e i = i

none_left : (l : List ℕ) → length l ≡ 0 → l ≡ []
none_left [] h = refl
none_left (b ∷ l) h = absurd (omega arith)

module _ (t : List ℕ) (i to e : ℕ) (end : e ≡ min to (length t)) where
  between_cons : i < e → between t i to ≡ get_or t i 0 ∷ between t (i + 1) to
  unfolding between part
  between_cons h =
      let k : i < length t = omega (arith, (least_le to (length t)).1) in
      let p : to - i ≡ suc (to - (i + 1)) = omega (arith, (least_le to (length t)).0) in
      let q : i + 1 ≡ suc i = omega arith in
      rw (p, q, drop-cons t i 0 k)

  between_none : e ≤ i → between t i to ≡ []
  between_none h = none_left (between t i to) (omega (arith, length_between t i to))

  -- ---- the first place
  module _ (w : List ℕ) (from : ℕ) (all : from + place_of w (between t from to) ≡ i + place_of w (between t i to)) where
    pub place_hit : i < e → begins w (between t i to) ≡ true → i ≡ from + place_of w (between t from to)
    unfolding place_of
    place_hit h q =
        let c = between_cons h in
        let p : place_of w (between t i to) ≡ 0 = rw c (rw (rw c at q)) in
        omega arith

    pub place_turn : i < e → begins w (between t i to) ≡ false → from + place_of w (between t from to) ≡ i + 1 + place_of w (between t (i + 1) to)
    unfolding place_of
    place_turn h q =
        let c = between_cons h in
        let p : place_of w (between t i to) ≡ suc (place_of w (between t (i + 1) to)) = rw c (rw (rw c at q)) in
        omega arith

    pub place_end : e ≤ i → i ≡ from + place_of w (between t from to)
    unfolding place_of
    place_end h = let p : place_of w (between t i to) ≡ 0 = rw (between_none h) in omega arith

-- ---- replaced
take_within : (n m : ℕ) (l : List ℕ) → n ≤ m → take n (take m l) ≡ take n l
take_within zero m l h = refl
take_within (suc n) zero l h = absurd (omega arith)
take_within (suc n) (suc m) [] h = refl
take_within (suc n) (suc m) (b ∷ l) h = ap (λ (k : List ℕ). b ∷ k) (take_within n m l (omega arith))

module _ (a : ℕ) (w : List ℕ) where
  place_fits : (s : List ℕ) → contains (a ∷ w) s ≡ true → place_of (a ∷ w) s + length (a ∷ w) ≤ length s
  unfolding contains place_of begins
  place_fits [] h = absurd (false≢true h)
  place_fits (b ∷ s) h =
      let i = place_fits s in
      by_test (begins (a ∷ w) (b ∷ s))
      (λ e. let p : place_of (a ∷ w) (b ∷ s) ≡ 0 = rw e in omega (arith, begins_length (a ∷ w) (b ∷ s) e))
      (λ e.
      let p : place_of (a ∷ w) (b ∷ s) ≡ suc (place_of (a ∷ w) s) = rw e in
      omega (arith, i (rw e at h)))

  replace_is : (v s : List ℕ) → contains (a ∷ w) s ≡ true
      → replace (a ∷ w) v s ≡ take (place_of (a ∷ w) s) s ++ (v ++ drop (place_of (a ∷ w) s + length (a ∷ w)) s)
  unfolding contains place_of begins replace
  replace_is v [] h = absurd (false≢true h)
  replace_is v (b ∷ s) h =
      let i = replace_is v s in
      by_test (begins (a ∷ w) (b ∷ s))
      (λ e. let z : 0 + suc (length w) ≡ suc (length w) = omega arith in rw (e, z))
      (λ e.
      let z : suc (place_of (a ∷ w) s) + suc (length w) ≡ suc (place_of (a ∷ w) s + suc (length w)) = omega arith in
      rw (e, z) (ap (λ (l : List ℕ). b ∷ l) (i (rw e at h))))

-- the range with what is written in place of the word
module _ (t : List ℕ) (from to : ℕ) where
  replaced_in : (w v : List ℕ) (p : ℕ) → 0 < length w → contains w (between t from to) ≡ true → p ≡ from + place_of w (between t from to)
      → (p + length w ≤ to) × (replace w v (between t from to) ≡ between t from p ++ (v ++ between t (p + length w) to))
  unfolding between part
  replaced_in [] v p h c e = absurd (omega arith)
  replaced_in (a ∷ w) v p h c e =
      let s = between t from to in
      let n = place_of (a ∷ w) s in
      let f : p + length (a ∷ w) ≤ to = omega (arith, place_fits a w s c, length_between t from to, (least_le to (length t)).0) in
      let x : take n s ≡ between t from p =
      let q : p - from ≡ n = omega arith in
      rw (q) (take_within n (to - from) (drop from t) (omega arith)) in
      let y : drop (n + length (a ∷ w)) s ≡ between t (p + length (a ∷ w)) to =
      let q : from + (n + length (a ∷ w)) ≡ p + length (a ∷ w) = omega arith in
      drop_between t from to (n + length (a ∷ w)) ∙ ap (λ (z : ℕ). between t z to) q in
      (f, replace_is a w v s c ∙ ap₂ (λ (l m : List ℕ). l ++ (v ++ m)) x y)

  module _ (w : List ℕ) (p : ℕ) (stands : Stands w t from to) (place : p ≡ from + place_of w (between t from to)) where
    pub replaced_fits : p + length w ≤ to
    replaced_fits = (replaced_in w [] p stands.some stands.inside place).0

    pub replaced_is : (v : List ℕ) (r₃ r₂ r₁ r₀ : Room) → r₁ ≡ emit r₀ (tok 6 (between t from p)) → r₂ ≡ emit r₁ (tok 6 v)
        → r₃ ≡ emit r₂ (tok 6 (between t (p + length w) to)) → seen r₃ ≡ seen (emit_all r₀ (tok 6 (replace w v (between t from to)) ∷ []))
    replaced_is v r₃ r₂ r₁ r₀ e₁ e₂ e₃ =
        let x = between t from p in
        let y = between t (p + length w) to in
        let q : (x ++ v) ++ y ≡ replace w v (between t from to) =
        append_assoc x v y ∙ sym (replaced_in w v p stands.some stands.inside place).1 in
        next r₃ r₀ (tok 6 x) (tok 6 v ∷ tok 6 y ∷ []) e₁ (next r₃ r₁ (tok 6 v) (tok 6 y ∷ []) e₂ (next r₃ r₂ (tok 6 y) [] e₃ (done r₃)))
        ∙ joined r₀ 6 x v (tok 6 y ∷ []) refl ∙ joined r₀ 6 (x ++ v) y [] refl ∙ ap (λ (l : List ℕ). seen (emit_all r₀ (tok 6 l ∷ []))) q

pub same_option : {A : Type 0} (r : Answer A) → r ≡ option_map (λ (x : A). x) r
same_option (Some x) = refl
same_option None = refl

-- ---- one sign after another
abbrev pub signs : List Sign
signs = Equal ∷ Unequal ∷ Less ∷ NotLess ∷ Greater ∷ NotGreater ∷ []

some_has : (r : Answer Sign) → is_some r ≡ has (flip_of r)
unfolding has
some_has (Some k) = refl
some_has None = refl

pub text_some : (k : Sign) → 0 < length (text_of k)
text_some Equal = omega arith
text_some Unequal = omega arith
text_some Less = omega arith
text_some NotLess = omega arith
text_some Greater = omega arith
text_some NotGreater = omega arith

abbrev flipped : Option Flip → List ℕ → List ℕ
flipped none s = s
flipped (some p) s = replace p.from p.to s

module _ (s : List ℕ) where
  first_has : (ps : List Flip) → has (first_in ps s) ≡ any (λ q. contains q.from s) ps
  unfolding first_in any has
  first_has [] = refl
  first_has (p ∷ ps) = by_test (contains p.from s) (λ e. rw e) (λ e. rw e (first_has ps))

  first_inside : (ps : List Flip) (p : Flip) → first_in ps s ≡ some p → contains p.from s ≡ true
  unfolding first_in
  first_inside [] p h = absurd (let z : ◌≡◌ {A = ℕ} 0 1 = cc in omega arith)
  first_inside (q ∷ ps) p h = cond_some (λ z. contains z.from s ≡ true) (contains q.from s) (λ e. e) (first_inside ps p) h

  first_flips : (ps : List Flip) → flipped (first_in ps s) s ≡ flip_in ps s
  unfolding first_in flip_in
  first_flips [] = refl
  first_flips (p ∷ ps) = by_test (contains p.from s) (λ e. rw e) (λ e. rw e (first_flips ps))

  pub sign_compares : (r : Answer Sign) → flip_of r ≡ first_in flips s → is_some r ≡ compares s
  unfolding compares
  sign_compares r first = some_has r ∙ ap has first ∙ first_has flips

  -- the first of the signs that the text contains
  sign_listed : (ks : List Sign) → flip_of (find (λ k. contains (text_of k) s) ks) ≡ first_in (map flip_by ks) s
  unfolding first_in
  sign_listed [] = refl
  sign_listed (k ∷ ks) = by_test (contains (text_of k) s) (λ e. rw e) (λ e. rw e (sign_listed ks))

  pub sign_first : (r : Answer Sign) → r ≡ find (λ k. contains (text_of k) s) signs → flip_of r ≡ first_in flips s
  unfolding flips
  sign_first r e = ap flip_of e ∙ sign_listed signs

  -- the first sign is k: the text contains it, and it is flipped
  module _ (k : Sign) (first : some (flip_by k) ≡ first_in flips s) where
    pub sign_inside : contains (text_of k) s ≡ true
    sign_inside = first_inside flips (flip_by k) (sym first)

    pub sign_flips : replace (text_of k) (text_of (opposite_of k)) s ≡ flip_in flips s
    sign_flips = ap (λ (o : Option Flip). flipped o s) first ∙ first_flips flips

  pub no_flips : none ≡ first_in flips s → s ≡ flip_in flips s
  no_flips first = ap (λ (o : Option Flip). flipped o s) first ∙ first_flips flips

pub piece_is : (r r₀ : Room) (x y : List ℕ) → seen r ≡ seen (emit_all r₀ (tok 6 x ∷ [])) → x ≡ y → seen r ≡ seen (emit_all r₀ (tok 6 y ∷ []))
piece_is r r₀ x y h e = rw (← e) h
