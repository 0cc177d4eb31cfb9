-- The lines that remain to be written: of a block from a statement on, and of the function from a block on.
use Rattle.std.specs.Prelude.{List, [], map, ℕ, zero, suc, ◌+◌, ◌-◌}
use Rattle.definition.specs.Edition.{Edition, blocks}
use Rattle.definition.specs.Lists.{range}
use Rattle.definition.specs.Contents.{size}
use Rattle.definition.specs.Read.{read, all_trees, stmt_at, block_at}
use Rattle.definition.specs.Tokens.{Line}
use Rattle.definition.specs.Blocks.{set_after, lower_stmts, lower_blocks}
use Rattle.calls.specs.Waiting.{pending}
use Rattle.lowering.specs.Lowered.{lowering_of, here_at}

-- the argument registers set by n statements from `first` on
unfoldable pub set_since : Edition → List ℕ → ℕ → ℕ → List ℕ
set_since E f first zero = []
set_since E f first (suc n) =
    let s = stmt_at E f (all_trees E f) (first + n) in
    set_after (read E f).args s s.kind (set_since E f first n)

-- of a block of statements `first` to `end`, from i on, where pushes wait from `from` on
unfoldable pub stmt_lines : Edition → List ℕ → ℕ → ℕ → ℕ → ℕ → ℕ → List Line
stmt_lines E f block first end from i =
    lower_stmts (lowering_of E f) (here_at E f block) (pending E f from i) (set_since E f first (i - first)) (map (stmt_at E f (all_trees E f)) (range i (end - i)))

-- from block b on
unfoldable pub block_lines : Edition → List ℕ → ℕ → List Line
block_lines E f b = lower_blocks (lowering_of E f) (map (block_at E f (all_trees E f)) (range b (size f blocks - b)))
