-- The pushes that wait for a call, by one number: those among the statements from there on; and what they push, by its nodes.
use Rattle.std.specs.Prelude.{cond, List, [], ◌∷◌, map, ℕ, zero, suc, ◌+◌, ◌-◌, eqb}
use Rattle.definition.specs.Codes.{k_store}
use Rattle.definition.specs.Edition.{Edition}
use Rattle.definition.specs.Lists.{gather}
use Rattle.definition.specs.Owners.{stmt_kind, stmt_field}
use Rattle.definition.specs.Ssa.{Stmt}
use Rattle.definition.specs.Read.{all_trees, marked, stmt_at}

-- the numbers of the push-marked ones of n statements from `from` on, the last first
unfoldable pub pushes_in : List ℕ → ℕ → ℕ → List ℕ
pushes_in f from zero = []
pushes_in f from (suc n) = cond (marked f (from + n) 4) ((from + n) ∷ pushes_in f from n) (pushes_in f from n)

-- the pushes from statement `from` on and before statement i
unfoldable pub pending : Edition → List ℕ → ℕ → ℕ → List Stmt
pending E f from i = map (stmt_at E f (all_trees E f)) (pushes_in f from (i - from))

-- the node that statement j stores
unfoldable pub stored_at : List ℕ → ℕ → List ℕ
stored_at f j = cond (eqb (stmt_kind f j) k_store) (stmt_field f j 2 ∷ []) []

-- the nodes that they push, in printing order
unfoldable pub pushed_nodes : List ℕ → ℕ → ℕ → List ℕ
pushed_nodes f from i = gather (stored_at f) (pushes_in f from (i - from))
