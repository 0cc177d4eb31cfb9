-- What each return of the functions over expressions comes to, over plain numbers and lists.
use mathlib.Core.Path.{◌≡◌, refl, sym, ap, ◌∙◌}
use mathlib.Core.Bool.{Bool, true, false}
use mathlib.Core.List.{List, []}
use Prim.Native.Nat.{ℕ, zero, suc, ◌+◌, ◌≤◌, ◌<◌}
use native.Mathlib.Omega.{arith}
use lib.Dec.{ltb}
use lib.ListN.{length, get_or, drop, drop_of_length-le}
use lib.Seq.{take-nil, drop-cons}
use borrow.Author.Tests.{ltb-true, ne_eqb}
use Rattle.definition.specs.Words.{part}
use Rattle.definition.specs.Contents.{offset, expr_word, expr_long}
use Rattle.definition.specs.Lists.{at}
use Rattle.definition.proofs.Bools.{both_true}
use Rattle.sums.specs.Address.{value_at, single, op_byte, signed_by, used_at, const_at, sum_at, address_at}

pub value_is : (tab numbers : List ℕ) (from i v r : ℕ) → v ≡ at numbers (from + i) → r ≡ at tab v → r ≡ value_at tab numbers from i
unfolding value_at
value_is tab numbers from i v r p q = q ∙ ap (at tab) p

-- ---- the byte of a text of one byte
module _ (f : List ℕ) (i : ℕ) where
  pub byte_past : (n : ℕ) → length f ≤ i → 0 ≡ single (part f i n)
  unfolding part single
  byte_past n h = rw (drop_of_length-le f h, take-nil n)

  pub byte_none : (n : ℕ) → n ≡ 0 → 0 ≡ single (part f i n)
  unfolding part single
  byte_none n e = rw e

  module _ (here : i < length f) where
    pub byte_one : (n : ℕ) → n ≡ 1 → get_or f i 0 ≡ single (part f i n)
    unfolding part single
    byte_one n e = rw (e, drop-cons f i 0 here)

    last_byte : (n : ℕ) → drop (suc i) f ≡ [] → get_or f i 0 ≡ single (part f i (suc n))
    unfolding part single
    last_byte n e = rw (drop-cons f i 0 here, e, take-nil n)

    pub byte_last : (n : ℕ) → (n ≡ 0 → ⊥) → i + 1 ≡ length f → get_or f i 0 ≡ single (part f i n)
    byte_last zero p e = absurd (p refl)
    byte_last (suc n) p e = last_byte n (drop_of_length-le f {i = suc i} (omega arith))

    pub byte_more : (n : ℕ) → (n ≡ 0 → ⊥) → (n ≡ 1 → ⊥) → (i + 1 ≡ length f → ⊥) → 0 ≡ single (part f i n)
    unfolding part single
    byte_more zero p q e = absurd (p refl)
    byte_more (suc zero) p q e = absurd (q refl)
    byte_more (suc (suc n)) p q e = rw (drop-cons f i 0 here, drop-cons f (suc i) 0 (omega arith))

pub op_is : (f : List ℕ) (t n o i l r : ℕ) → o ≡ offset f t → i ≡ expr_word f n 1 → l ≡ expr_word f n 2 → r ≡ single (part f (o + i) l) → r ≡ op_byte f t n
unfolding op_byte
op_is f t n o i l r p q s e = e ∙ rw (p, q, s)

-- ---- an expression, whose tag g was read
module _ (h : ℕ → ℕ) (f : List ℕ) (n g : ℕ) (tag : g ≡ expr_word f n 0) where
  pub used_yes : (r : ℕ) → g ≡ 2 → r ≡ h n → r ≡ used_at h f n
  unfolding used_at
  used_yes r e p = rw (sym tag ∙ e) p

  pub used_no : (g ≡ 2 → ⊥) → 0 ≡ used_at h f n
  unfolding used_at
  used_no p = rw (← tag, ne_eqb g 2 p)

  module _ (t : ℕ) where
    pub address_use : (r : ℕ) → g ≡ 2 → r ≡ h n → r ≡ address_at h f t n
    unfolding address_at
    address_use r e p = rw (sym tag ∙ e) p

    pub address_bin : (r : ℕ) → g ≡ 3 → r ≡ sum_at h f t n → r ≡ address_at h f t n
    unfolding address_at
    address_bin r e p = rw (sym tag ∙ e) p

    pub address_no : (g ≡ 2 → ⊥) → (g ≡ 3 → ⊥) → 0 ≡ address_at h f t n
    unfolding address_at
    address_no p q = rw (← tag, ne_eqb g 2 p, ne_eqb g 3 q)

-- ---- its children
pub const_lower : (f : List ℕ) (n a : ℕ) → a ≡ expr_word f n 3 → const_at f n ≡ true → a < n
unfolding const_at
const_lower f n a e h = rw e (ltb-true (expr_word f n 3) n (both_true (ltb (expr_word f n 3) n) _ h).0)

-- ---- a sum, with its test c
module _ (h : ℕ → ℕ) (f : List ℕ) (t n : ℕ) (c : Bool) (const : c ≡ const_at f n) where
  pub sum_none : c ≡ false → 0 ≡ sum_at h f t n
  unfolding sum_at
  sum_none e = rw (← const, e)

  pub sum_some : (a s o b x r : ℕ) → c ≡ true → a ≡ expr_word f n 3 → s ≡ used_at h f a → o ≡ op_byte f t n → b ≡ expr_word f n 4 → x ≡ expr_long f b 1
      → r ≡ signed_by s o x → r ≡ sum_at h f t n
  unfolding sum_at
  sum_some a s o b x r e p q u w y z =
      z ∙ rw (← const, e, y, w, u, q, p)
