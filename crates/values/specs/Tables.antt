-- A value's number is the first place that names it; a table says something of each value, at its number, and 0 everywhere else.
use Rattle.std.specs.Prelude.{cond, not, ◌&&◌, List, [], ◌∷◌, map, ℕ, suc, eqb, length}
use Rattle.definition.specs.Lists.{range, at}
use Rattle.definition.specs.Values.{Value}
use Rattle.places.specs.Keys.{value_of, keyed}

-- the first place of k, or the length where there is none
unfoldable pub first_of : List ℕ → ℕ → ℕ
first_of [] k = 0
first_of (x ∷ xs) k = cond (eqb x k) 0 (suc (first_of xs k))

unfoldable pub number_of : List ℕ → ℕ → ℕ
number_of ks k = cond (eqb k 0) 0 (first_of ks k)

unfoldable pub numbers_of : List ℕ → List ℕ
numbers_of ks = map (number_of ks) ks

-- the table of g
unfoldable pub entry : List ℕ → (Value → ℕ) → ℕ → ℕ
entry ks g p = cond (not (eqb (at ks p) 0) && eqb (first_of ks (at ks p)) p) (g (value_of (at ks p))) 0

unfoldable pub tabled : List ℕ → (Value → ℕ) → List ℕ
tabled ks g = map (entry ks g) (range 0 (length ks))

-- of a file, in scratch of n numbers
unfoldable pub numbered : List ℕ → ℕ → List ℕ
numbered f n = numbers_of (keyed f n)

unfoldable pub table : List ℕ → ℕ → (Value → ℕ) → List ℕ
table f n g = tabled (keyed f n) g
