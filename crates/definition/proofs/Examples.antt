-- Document 01's worked examples that are marked to be proved, computed together: numbers, slots, four-byte loads, negation.
use mathlib.Core.Path.{◌≡◌, refl}
use mathlib.Core.Bool.{true}
use mathlib.Core.List.{List, [], ◌∷◌}
use Prim.Native.Nat.{ℕ, ◌+◌, ◌-◌}
use Rattle.definition.specs.Lists.{all, any, count}
use Rattle.definition.specs.Texts.{txt, same, is_empty, begins, contains, replace, trim_end}
use Rattle.definition.specs.Ssa.Expr.{Const, Load}
use Rattle.definition.specs.Offsets.{half, whole, stack_off}
use Rattle.definition.specs.Numbers.{digit, digits, decimal, hex, hex_upper, magnitude, num, slot}
use Rattle.definition.specs.Lookup.{name_for, size_prefix, name_or, global_name}
use Rattle.definition.specs.Tokens.{Token, register, numeral, keyword, punct, text_of}
use Rattle.definition.specs.Render.{Gen, slot_or, pointer, through, global_of, global_or, expr, e}
use Rattle.definition.specs.Negate.{flips, compares, flip_in, comparisons, flip_at, flippable, negate}

-- what the definition computes, and what document 01 prints
pub record Example : Type 0 where
  pub got : List ℕ
  pub want : List ℕ

abbrev example : List ℕ → List ℕ → Example
example g w = record { got = g; want = w }

-- a function without names
abbrev bare : Gen
bare = record { bits = 64; supplied = []; offsets = []; names = []; opened = [] }

abbrev load : ℕ → List ℕ
load a = text_of (e bare (Load 4 (Const a)))

abbrev negated : List Token → List ℕ
negated c = text_of (negate c)

abbrev pub examples : List Example
examples =
    example (num (whole - 10)) (txt "-0xa") ∷ example (num (whole - 9)) (txt "-9") ∷ example (num 9) (txt "9") ∷ example (num 10) (txt "0xa")
    ∷ example (num half) (txt "-0x8000000000000000")
    ∷ example (slot (half - 16)) (txt "var_10") ∷ example (slot half) (txt "arg_0") ∷ example (slot (half + 8)) (txt "arg_8")
    ∷ example (load 0xfff) (txt "*(uint32_t *)(0xfff)") ∷ example (load 0x1000) (txt "dword_1000")
    ∷ example (negated (register (txt "a1") ∷ punct (txt " == ") ∷ numeral (txt "5") ∷ [])) (txt "a1 != 5")
    ∷ example (negated (keyword (txt "__flags_o") ∷ [])) (txt "!(__flags_o)") ∷ []

pub printed : all (λ x. same x.got x.want) examples ≡ true
unfolding all any count same is_empty begins contains replace trim_end stack_off digit digits decimal hex hex_upper magnitude num slot name_for size_prefix name_or global_name text_of slot_or pointer through global_of global_or expr e flips compares flip_in comparisons flip_at flippable negate
printed = refl
