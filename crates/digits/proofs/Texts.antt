-- The texts that the writers of numbers put together, as the definition has them: a front and a numeral.
use mathlib.Core.Path.{◌≡◌, refl, ap, ◌∙◌}
use mathlib.Core.List.{List, ◌++◌}
use Prim.Native.Nat.{ℕ, ◌+◌, ◌-◌, ◌*◌, ◌≤◌, ◌<◌}
use native.Mathlib.Nat.{mul_comm}
use native.Mathlib.Omega.{arith}
use borrow.Author.Tests.{lt-ltb, le-ltb, le-leb, lt-leb}
use lib.ListN.{length, length-append}
use Rattle.definition.specs.Texts.{txt}
use Rattle.definition.specs.Offsets.{half, whole}
use Rattle.definition.specs.Numbers.{decimal, hex, hex_upper, magnitude, num, slot, label, outward}
use Rattle.definition.specs.Render.{pointer}
use Rattle.digits.specs.declared.Radix.{Radix}
use Rattle.digits.specs.declared.Radix.TheVariants.{Decimal, Lower, Upper}
use Rattle.digits.specs.Numeral.{base_of, ten_of, most_of, numeral}

-- ---- the numerals are the definition's
abbrev pub written : Radix → ℕ → List ℕ
written Decimal v = decimal v
written Lower v = hex v
written Upper v = hex_upper v

pub numeral_is : (x : Radix) (v : ℕ) → numeral x v ≡ written x v
unfolding numeral base_of ten_of most_of decimal hex hex_upper
numeral_is Decimal v = refl
numeral_is Lower v = refl
numeral_is Upper v = refl

-- ---- `num`: below 2^63 the constant itself, else a sign and what is missing to 2^64
pub num_digit : (c : ℕ) → c < half → c ≤ 9 → txt "" ++ numeral Decimal c ≡ num c
unfolding num magnitude
num_digit c h k = rw (lt-ltb c half h, le-leb c 9 k) (numeral_is Decimal c)

pub num_hex : (c : ℕ) → c < half → 9 < c → txt "0x" ++ numeral Lower c ≡ num c
unfolding num magnitude
num_hex c h k = rw (lt-ltb c half h, lt-leb c 9 k) (ap (λ (l : List ℕ). txt "0x" ++ l) (numeral_is Lower c))

module _ (c m : ℕ) (negative : half ≤ c) (missing : m ≡ whole - c) where
  pub num_minus_digit : m ≤ 9 → txt "-" ++ numeral Decimal m ≡ num c
  unfolding num magnitude
  num_minus_digit k = rw (le-ltb c half negative, ← missing, le-leb m 9 k) (ap (λ (l : List ℕ). txt "-" ++ l) (numeral_is Decimal m))

  pub num_minus_hex : 9 < m → txt "-0x" ++ numeral Lower m ≡ num c
  unfolding num magnitude
  num_minus_hex k = rw (le-ltb c half negative, ← missing, lt-leb m 9 k) (ap (λ (l : List ℕ). txt "-0x" ++ l) (numeral_is Lower m))

-- ---- `slot`: variables below 0, arguments from 0 on
pub slot_below : (s : ℕ) → s < half → txt "var_" ++ numeral Upper (half - s) ≡ slot s
unfolding slot
slot_below s h = rw (lt-ltb s half h) (ap (λ (l : List ℕ). txt "var_" ++ l) (numeral_is Upper (half - s)))

pub slot_above : (s : ℕ) → half ≤ s → txt "arg_" ++ numeral Upper (s - half) ≡ slot s
unfolding slot
slot_above s h = rw (le-ltb s half h) (ap (λ (l : List ℕ). txt "arg_" ++ l) (numeral_is Upper (s - half)))

-- ---- labels, raw addresses, pointers
pub label_is : (a : ℕ) → txt "loc_" ++ numeral Upper a ≡ label a
unfolding label
label_is a = ap (λ (l : List ℕ). txt "loc_" ++ l) (numeral_is Upper a)

pub outward_is : (a : ℕ) → txt "*0x" ++ numeral Lower a ≡ outward a
unfolding outward
outward_is a = ap (λ (l : List ℕ). txt "*0x" ++ l) (numeral_is Lower a)

pub pointer_size : (v w : ℕ) → w ≡ length (numeral Decimal v) → 6 + w ≡ length (txt "*(uint" ++ numeral Decimal v)
pointer_size v w e = omega (arith, length-append (txt "*(uint") (numeral Decimal v))

pub pointer_is : (n : ℕ) → (txt "*(uint" ++ numeral Decimal (8 * n)) ++ txt "_t *)" ≡ (pointer n).text
unfolding pointer
pointer_is n = ap (λ (l : List ℕ). txt "*(uint" ++ (l ++ txt "_t *)")) (numeral_is Decimal (8 * n) ∙ ap decimal (mul_comm 8 n))
