-- A list that is being filled from the left, as long as there is room.
use Rattle.std.specs.Prelude.{cond, List, [], ◌∷◌, ℕ, ◌+◌, ltb, length, get_or, set}
use Rattle.uses.specs.Uses.{uses_below}

-- the list, and the place of the next number
pub record Filling : Type 0 where
  pub list : List ℕ
  pub next : ℕ

abbrev pub filling : List ℕ → ℕ → Filling
filling l k = record { list = l; next = k }

-- one number more; several
unfoldable pub put : Filling → ℕ → Filling
put r x = cond (ltb r.next (length r.list)) (filling (set r.list r.next x) (r.next + 1)) r

unfoldable pub put_all : Filling → List ℕ → Filling
put_all r [] = r
put_all r (x ∷ xs) = put_all (put r x) xs

-- the Use nodes of expression x, where it is below b
unfoldable pub uses_under : List ℕ → ℕ → ℕ → List ℕ
uses_under f b x = get_or (uses_below f b) x []
