-- Digits by radix, and the loop that writes them.
use Rattle.std.specs.Prelude.{List, ℕ, zero, suc, ◌/◌, ◌%◌, set}
use Rattle.definition.specs.Numbers.{digit, digits}
use Rattle.digits.specs.declared.Radix.{Radix}
use Rattle.digits.specs.declared.Radix.TheVariants.{Decimal, Lower, Upper}

unfoldable pub base_of : Radix → ℕ
base_of Decimal = 10
base_of Lower = 16
base_of Upper = 16

-- the letter for ten
unfoldable pub ten_of : Radix → ℕ
ten_of Decimal = 97
ten_of Lower = 97
ten_of Upper = 65

-- one less than the digits of the greatest number of 64 bits
unfoldable pub most_of : Radix → ℕ
most_of Decimal = 19
most_of Lower = 15
most_of Upper = 15

-- so that it is `decimal`, `hex` or `hex_upper` of the definition
unfoldable pub numeral : Radix → ℕ → List ℕ
numeral x v = digits (base_of x) (ten_of x) (most_of x) v

-- the last n digits of v over the first n bytes of d, from the last one down
unfoldable pub filled : ℕ → ℕ → ℕ → ℕ → List ℕ → List ℕ
filled base ten zero v d = d
filled base ten (suc n) v d = filled base ten n (v / base) (set d n (digit ten (v % base)))
