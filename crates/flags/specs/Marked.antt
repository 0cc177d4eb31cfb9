-- The last statement that is marked as setting the flags, by its number.
use Rattle.std.specs.Prelude.{cond, List, [], ◌∷◌, ℕ}
use Rattle.std.proofs.Math.Option.{Option, some}
use Rattle.definition.specs.Read.{marked}

-- among these, k being the last before them
unfoldable pub last_marked : List ℕ → Option ℕ → List ℕ → Option ℕ
last_marked f k [] = k
last_marked f k (i ∷ is) = last_marked f (cond (marked f i 2) (some i) k) is
