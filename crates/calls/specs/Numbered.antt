-- What a statement does to its block, by its record: its kind's number and its marks.
use Rattle.std.specs.Prelude.{Bool, not, ◌&&◌, ◌||◌, List, ℕ, eqb}
use Rattle.definition.specs.Codes.{k_call, k_branch, k_return}
use Rattle.definition.specs.Owners.{stmt_kind}
use Rattle.definition.specs.Read.{marked}

-- statement i leaves its block
unfoldable pub leaves_at : List ℕ → ℕ → Bool
leaves_at f i = eqb (stmt_kind f i) k_branch || eqb (stmt_kind f i) k_return

-- it takes the pushes before it
unfoldable pub takes_at : List ℕ → ℕ → Bool
takes_at f i = not (marked f i 4) && eqb (stmt_kind f i) k_call
