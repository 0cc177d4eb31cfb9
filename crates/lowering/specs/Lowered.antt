-- Lowering by the numbers of the file's records: what it knows, how it writes an expression, a block, and the lines of one statement.
use Rattle.std.specs.Prelude.{cond, List, [], ◌∷◌, ◌++◌, ℕ, ◌+◌, ltb}
use Rattle.std.proofs.Math.Option.{none, some}
use Rattle.definition.specs.Edition.{Edition, blocks}
use Rattle.definition.specs.Contents.{size, block_long}
use Rattle.definition.specs.Ssa.{Stmt}
use Rattle.definition.specs.Read.{read, tree_at, all_trees, stmt_at, block_at}
use Rattle.definition.specs.Offsets.{offsets}
use Rattle.definition.specs.Tokens.{Token, Line, punct}
use Rattle.definition.specs.Render.{e}
use Rattle.definition.specs.Lower.{Lowering, Here, lower_kind}
use Rattle.definition.specs.Blocks.{lowering}
use Rattle.inline.specs.Placing.{behind}

unfoldable pub lowering_of : Edition → List ℕ → Lowering
lowering_of E f = lowering (read E f) (offsets (read E f))

-- expression n
unfoldable pub expr_of : Edition → List ℕ → ℕ → List Token
expr_of E f n = e (lowering_of E f).gen (tree_at (all_trees E f) n)

-- and between two signs
unfoldable pub within_of : Edition → List ℕ → List ℕ → ℕ → List ℕ → List Token
within_of E f front n back = punct front ∷ (expr_of E f n ++ (punct back ∷ []))

-- statement i
abbrev pub stmt_of : Edition → List ℕ → ℕ → Stmt
stmt_of E f i = stmt_at E f (all_trees E f) i

-- and in the block H, which ends before statement `end`, with these pushes waiting and these registers set
unfoldable pub lowered : Edition → List ℕ → Here → List Stmt → List ℕ → ℕ → ℕ → List Line
lowered E f H pend set end i = lower_kind (lowering_of E f) H pend set (stmt_of E f i) (behind E f end i) (stmt_of E f i).kind

-- block b, and the start of the next
unfoldable pub here_at : Edition → List ℕ → ℕ → Here
here_at E f b = record {
  block = block_at E f (all_trees E f) b;
  next = cond (ltb (b + 1) (size f blocks)) (some (block_long f (b + 1) 0)) none;
}
