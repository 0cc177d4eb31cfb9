-- The flags theorem: after CMP and TEST each comparison that is printed holds exactly when Intel's condition does, and its opposite exactly
-- when it does not. By the setter and the code, each from the laws of CompareLaws; once over the width, then at 32 and 64.
use mathlib.Core.Path.{◌≡◌, refl, sym, ap, ap₂, ◌∙◌}
use mathlib.Core.Bool.{Bool, true, false, not, ◌&&◌, ◌||◌, beq, not-not, and_comm, or_comm}
use mathlib.Core.Option.{Option, none, some}
use Prim.Native.Nat.{ℕ, ◌<◌, ◌%◌, ◌^◌}
use native.Mathlib.Nat.{mod-lt}
use native.Mathlib.Omega.{arith}
use lib.Dec.{eqb, ltb, leb}
use lib.Bits.{bit_and, and_self, and_le_l}
use lib.Pow.{pow_pos}
use Rattle.definition.specs.Condition.{Code, Setter, Sign, Shown, shown}
use Rattle.definition.specs.Condition.Code.{e, ne, l, ge, g, le, b, ae, a, be, s, ns}
use Rattle.definition.specs.Condition.Setter.{cmp, test, self, result}
use Rattle.definition.specs.Condition.Sign.{equal, unequal, under, not_under, over, not_over}
use Rattle.definition.specs.Intel.{half, signed, wrapped, misfits, Status, after_cmp, after_test, after, intel, relates, side_value, reading, holds, opposite, flipped, Says}
use Rattle.definition.proofs.CompareLaws.{tests, wrapped_fits, not_less, signed_equal, plain_equal, signed_under, signed_zero}

-- ---- the opposite
opposite_not : (o : Sign) (x y : ℕ) → relates (opposite o) x y ≡ not (relates o x y)
unfolding relates opposite
opposite_not equal x y = refl
opposite_not unequal x y = sym (not-not (eqb x y))
opposite_not under x y = (tests x y).ge
opposite_not not_under x y = sym (not-not (ltb x y)) ∙ ap not (sym (tests x y).ge)
opposite_not over x y = (tests y x).ge
opposite_not not_over x y = sym (not-not (ltb y x)) ∙ ap not (sym (tests y x).ge)

flipped_not : (w x y : ℕ) (p : Shown) → holds w x y (flipped p) ≡ not (holds w x y p)
unfolding holds flipped
flipped_not w x y p = opposite_not p.sign _ _

-- ---- the comparison itself: what is printed, if anything is, holds as the condition does
abbrev Agrees : ℕ → ℕ → ℕ → Option Shown → Bool → Type 0
Agrees w x y none is = Unit
Agrees w x y (some p) is = holds w x y p ≡ is

module _ (w : ℕ) (positive : 0 < w) (x y : ℕ) (fx : x < 2 ^ w) (fy : y < 2 ^ w) where
  -- SF≠OF
  less : ltb (signed w x) (signed w y) ≡ not (beq (leb (half w) (wrapped w x y)) (misfits w x y))
  less = sym (not-not (ltb (signed w x) (signed w y))) ∙ ap not (sym (not_less w positive x y fx fy))

  -- ZF=1, of the signed values
  alike : eqb (signed w x) (signed w y) ≡ eqb (wrapped w x y) 0
  alike = signed_equal w positive x y fx fy

  -- SF=1
  minus : ltb (signed w (wrapped w x y)) (signed w 0) ≡ leb (half w) (wrapped w x y)
  minus = signed_under w positive (wrapped w x y) (wrapped_fits w positive x y fx fy)

  cmp_agrees : (c : Code) → Agrees w x y (shown cmp c) (intel c (after_cmp w x y))
  unfolding shown intel after_cmp holds relates reading side_value
  cmp_agrees e = alike
  cmp_agrees ne = ap not alike
  cmp_agrees l = less
  cmp_agrees ge = (tests (signed w x) (signed w y)).ge ∙ sym (not_less w positive x y fx fy)
  cmp_agrees g = (tests (signed w x) (signed w y)).gt ∙ ap₂ (λ (u v : Bool). not u && v) alike (sym (not_less w positive x y fx fy))
  cmp_agrees le = (tests (signed w x) (signed w y)).le ∙ ap₂ (λ (u v : Bool). u || v) alike less
  cmp_agrees b = refl
  cmp_agrees ae = (tests x y).ge
  cmp_agrees a =
      (tests x y).gt ∙ and_comm (not (eqb x y)) (not (ltb x y)) ∙ ap (λ (z : Bool). not (ltb x y) && not z) (plain_equal w positive x y fx fy)
  cmp_agrees be = (tests x y).le ∙ or_comm (eqb x y) (ltb x y) ∙ ap (λ (z : Bool). ltb x y || z) (plain_equal w positive x y fx fy)
  cmp_agrees s = minus
  cmp_agrees ns = (tests (signed w (wrapped w x y)) (signed w 0)).ge ∙ ap not minus

  test_zero : eqb (signed w (bit_and x y)) (signed w 0) ≡ eqb (bit_and x y) 0
  test_zero = signed_zero w positive (bit_and x y) (omega (arith, and_le_l x y))

  test_agrees : (c : Code) → Agrees w x y (shown test c) (intel c (after_test w x y))
  unfolding shown intel after_test holds relates reading side_value
  test_agrees e = test_zero
  test_agrees ne = ap not test_zero
  test_agrees l = tt
  test_agrees ge = tt
  test_agrees g = tt
  test_agrees le = tt
  test_agrees b = tt
  test_agrees ae = tt
  test_agrees a = tt
  test_agrees be = tt
  test_agrees s = tt
  test_agrees ns = tt

  -- TEST of an operand and itself: the result is the operand, and OF is 0
  self_zero : eqb (signed w x) (signed w 0) ≡ eqb (bit_and x x) 0
  self_zero = signed_zero w positive x fx ∙ ap (λ (z : ℕ). eqb z 0) (sym (and_self x))

  self_minus : ltb (signed w x) (signed w 0) ≡ leb (half w) (bit_and x x)
  self_minus = signed_under w positive x fx ∙ ap (leb (half w)) (sym (and_self x))

  self_plus : not (ltb (signed w x) (signed w 0)) ≡ beq (leb (half w) (bit_and x x)) false
  self_plus = ap not self_minus ∙ go (leb (half w) (bit_and x x))
    where
      go : (z : Bool) → not z ≡ beq z false
      go true = refl
      go false = refl

  self_agrees : (c : Code) → Agrees w x y (shown self c) (intel c (after_test w x x))
  unfolding shown intel after_test holds relates reading side_value
  self_agrees e = self_zero
  self_agrees ne = ap not self_zero
  self_agrees l = tt
  self_agrees ge = tt
  self_agrees g = (tests (signed w x) (signed w 0)).gt ∙ ap₂ (λ (u v : Bool). not u && v) self_zero self_plus
  self_agrees le =
      (tests (signed w x) (signed w 0)).le ∙ ap₂ (λ (u v : Bool). u || v) self_zero (sym (not-not (ltb (signed w x) (signed w 0))) ∙ ap not self_plus)
  self_agrees b = tt
  self_agrees ae = tt
  self_agrees a = tt
  self_agrees be = tt
  self_agrees s = self_minus
  self_agrees ns = (tests (signed w x) (signed w 0)).ge ∙ ap not self_minus

  agrees : (t : Setter) (f : Status) → after w t x y ≡ some f → (c : Code) → Agrees w x y (shown t c) (intel c f)
  unfolding after
  agrees cmp f q c = let r : after_cmp w x y ≡ f = cc in rw r at (cmp_agrees c)
  agrees test f q c = let r : after_test w x y ≡ f = cc in rw r at (test_agrees c)
  agrees self f q c = let r : after_test w x x ≡ f = cc in rw r at (self_agrees c)
  agrees result f q c = let z : ◌≡◌ {A = ℕ} 0 1 = cc in absurd (omega arith)

-- ---- the theorem, for operands of w bits
abbrev pub Faithful : ℕ → ℕ → ℕ → Type 0
Faithful w x y = (t : Setter) (f : Status) → after w t x y ≡ some f → (c : Code) (p : Shown) → shown t c ≡ some p → Says w x y p (intel c f)

pub faithful : (w : ℕ) → 0 < w → (x y : ℕ) → x < 2 ^ w → y < 2 ^ w → Faithful w x y
faithful w positive x y fx fy t f q c p r =
    let itself : holds w x y p ≡ intel c f = rw r at (agrees w positive x y fx fy t f q c) in
    record { itself = itself; negated = flipped_not w x y p ∙ ap not itself }

-- of any operands, wrapped to w bits
pub faithful_wrapped : (w : ℕ) → 0 < w → (x y : ℕ) → Faithful w (x % 2 ^ w) (y % 2 ^ w)
faithful_wrapped w positive x y = faithful w positive (x % 2 ^ w) (y % 2 ^ w) (mod-lt x (pow_pos w)) (mod-lt y (pow_pos w))
