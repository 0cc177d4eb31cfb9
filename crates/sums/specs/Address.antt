-- Addresses, read off the records of expressions. h says what is known of the value that an expression uses, t is the text's section.
use Rattle.std.specs.Prelude.{Bool, not, cond, ◌&&◌, ◌||◌, List, [], ◌∷◌, ℕ, ◌+◌, ◌-◌, eqb, ltb}
use Rattle.definition.specs.Codes.{t_const, t_use, t_bin}
use Rattle.definition.specs.Words.{part}
use Rattle.definition.specs.Contents.{offset, expr_word, expr_long}
use Rattle.definition.specs.Offsets.{half, whole, forth, back, plus, minus}
use Rattle.definition.specs.Lists.{at}

-- what a table says of the value at place i behind `from`
unfoldable pub value_at : List ℕ → List ℕ → ℕ → ℕ → ℕ
value_at tab numbers from i = at tab (at numbers (from + i))

-- the byte of a text of one byte, and 0 of any other
unfoldable pub single : List ℕ → ℕ
single [] = 0
single (b ∷ []) = b
single (b ∷ c ∷ s) = 0

-- the operator of expression n
unfoldable pub op_byte : List ℕ → ℕ → ℕ → ℕ
op_byte f t n = single (part f (offset f t + expr_word f n 1) (expr_word f n 2))

-- only `+` (43) and `-` (45) derive
unfoldable pub is_sign : ℕ → Bool
is_sign o = eqb o 43 || eqb o 45

-- m more or m less than s; plus or minus the constant with the bits c
unfoldable pub moved : Bool → ℕ → ℕ → ℕ
moved more s m = cond more (forth s m) (back s m)

unfoldable pub shifted : Bool → ℕ → ℕ → ℕ
shifted more s c = cond (ltb c half) (moved more s c) (moved (not more) s (whole - c))

-- by the operator's byte
unfoldable pub signed_by : ℕ → ℕ → ℕ → ℕ
signed_by s o c = cond (eqb o 43) (plus s c) (cond (eqb o 45) (minus s c) 0)

-- what is known of expression n, if it is a value
unfoldable pub used_at : (ℕ → ℕ) → List ℕ → ℕ → ℕ
used_at h f n = cond (eqb (expr_word f n 0) t_use) (h n) 0

-- the children of expression n are lower, and the right one is a constant
unfoldable pub const_at : List ℕ → ℕ → Bool
const_at f n = ltb (expr_word f n 3) n && (ltb (expr_word f n 4) n && eqb (expr_word f (expr_word f n 4) 0) t_const)

-- the offset of the sum n
unfoldable pub sum_at : (ℕ → ℕ) → List ℕ → ℕ → ℕ → ℕ
sum_at h f t n = cond (const_at f n) (signed_by (used_at h f (expr_word f n 3)) (op_byte f t n) (expr_long f (expr_word f n 4) 1)) 0

-- the offset of expression n
unfoldable pub address_at : (ℕ → ℕ) → List ℕ → ℕ → ℕ → ℕ
address_at h f t n = cond (eqb (expr_word f n 0) t_use) (h n) (cond (eqb (expr_word f n 0) t_bin) (sum_at h f t n) 0)

-- a sum of a known value with a constant that is outside
unfoldable pub outside_at : (ℕ → ℕ) → List ℕ → ℕ → ℕ → Bool
outside_at h f t n =
    (eqb (expr_word f n 0) t_bin && is_sign (op_byte f t n)) && (const_at f n && (not (eqb (used_at h f (expr_word f n 3)) 0) && eqb (sum_at h f t n) 0))
