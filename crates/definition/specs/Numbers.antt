-- Numbers as text: decimal, hexadecimal, and `num`, `slot`, labels of c.rs; hexadecimal read back as `from_str_radix` reads it.
use Rattle.std.specs.Prelude.{cond, ◌&&◌, List, [], ◌∷◌, ◌++◌, ℕ, zero, suc, ◌+◌, ◌*◌, ◌-◌, ◌/◌, ◌%◌, eqb, ltb, leb}
use Rattle.std.proofs.Math.Option.{Option, none, some}
use Rattle.definition.specs.Texts.{txt, is_empty}
use Rattle.definition.specs.Offsets.{half, whole}

-- the digits of v to a base, at most n + 1 of them, the letters above 9 beginning at `ten`
unfoldable pub digit : ℕ → ℕ → ℕ
digit ten v = cond (ltb v 10) (48 + v) (ten + (v - 10))

unfoldable pub digits : ℕ → ℕ → ℕ → ℕ → List ℕ
digits base ten zero v = digit ten (v % base) ∷ []
digits base ten (suc n) v = let front = digits base ten n (v / base) in cond (ltb v base) (digit ten v ∷ []) (front ++ (digit ten (v % base) ∷ []))

-- `{v}`, `{v:x}` and `{v:X}` of a number below 2^64
unfoldable pub decimal : ℕ → List ℕ
decimal v = digits 10 97 19 v

unfoldable pub hex : ℕ → List ℕ
hex v = digits 16 97 15 v

unfoldable pub hex_upper : ℕ → List ℕ
hex_upper v = digits 16 65 15 v

-- a magnitude: decimal up to 9, else `0x` and hexadecimal
unfoldable pub magnitude : ℕ → List ℕ
magnitude m = cond (leb m 9) (decimal m) (txt "0x" ++ hex m)

-- `num` of the constant with the bits c
unfoldable pub num : ℕ → List ℕ
num c = cond (ltb c half) (magnitude c) (txt "-" ++ magnitude (whole - c))

-- `slot` of an offset, which is 2^63 more than it says
unfoldable pub slot : ℕ → List ℕ
slot s = cond (ltb s half) (txt "var_" ++ hex_upper (half - s)) (txt "arg_" ++ hex_upper (s - half))

-- the label of a block's start
unfoldable pub label : ℕ → List ℕ
label a = txt "loc_" ++ hex_upper a

-- `*{a:#x}`
unfoldable pub outward : ℕ → List ℕ
outward a = txt "*0x" ++ hex a

-- the value of a hexadecimal digit
unfoldable pub hex_value : ℕ → Option ℕ
hex_value b =
    cond (leb 48 b && leb b 57) (some (b - 48))
    (cond (leb 97 b && leb b 102) (some (b - 87)) (cond (leb 65 b && leb b 70) (some (b - 55)) none))

-- one digit behind the number read so far: none where it is no digit, or the number leaves 64 bits
unfoldable pub push : Option ℕ → Option ℕ → Option ℕ
push none d = none
push (some v) none = none
push (some v) (some d) = cond (ltb (16 * v + d) whole) (some (16 * v + d)) none

unfoldable pub read_digits : Option ℕ → List ℕ → Option ℕ
read_digits v [] = v
read_digits v (b ∷ t) = read_digits (push v (hex_value b)) t

-- at least one digit
unfoldable pub read_some : List ℕ → Option ℕ
read_some t = cond (is_empty t) none (read_digits (some 0) t)

-- `u64::from_str_radix(t, 16)`, one leading `+` included
unfoldable pub read_hex : List ℕ → Option ℕ
read_hex [] = none
read_hex (b ∷ t) = cond (eqb b 43) (read_some t) (read_some (b ∷ t))
