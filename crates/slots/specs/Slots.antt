-- Slots: a bit of a lent table for each value. A value whose slot is free is none of those whose slots were taken.
use Rattle.std.specs.Prelude.{Bool, true, false, not, cond, ◌&&◌, List, [], ◌∷◌, ℕ, ◌+◌, ◌*◌, ◌/◌, ◌%◌, ◌^◌, eqb, ltb, length, get_or, set}
use Rattle.std.specs.Int.Bits.{bit_and, bit_or}
use Rattle.definition.specs.Values.{Value}

-- the entry of the table with the slot of v, and its bit there; two values that share a slot differ by a register from 16 on or by a multiple of 4,096 versions
unfoldable pub place : Value → ℕ
place v = v.reg % 16 * 128 + v.ver / 32 % 128

unfoldable pub mask : Value → ℕ
mask v = 2 ^ (v.ver % 32)

-- past the table no slot is free
unfoldable pub free : List ℕ → Value → Bool
free t v = ltb (place v) (length t) && eqb (bit_and (get_or t (place v) 0) (mask v)) 0

unfoldable pub marked : List ℕ → Value → List ℕ
marked t v = set t (place v) (bit_or (get_or t (place v) 0) (mask v))

-- a table, and whether all values so far have a version above 0 and found their slots free
pub record Slots : Type 0 where
  pub table : List ℕ
  pub apart : Bool

abbrev pub slots : List ℕ → Bool → Slots
slots t b = record { table = t; apart = b }

-- one value more
unfoldable pub taken : List ℕ → Value → Slots
taken t v = cond (not (eqb v.ver 0) && free t v) (slots (marked t v) true) (slots t false)

-- values one after the other; the first that fails ends it
unfoldable pub takes : Slots → List Value → Slots
takes s [] = s
takes s (v ∷ vs) = takes (cond s.apart (taken s.table v) s) vs
