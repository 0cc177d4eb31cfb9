-- The pieces and the lines of branches, by the numbers of blocks, statements and list items.
use Rattle.std.specs.Prelude.{min, cond, List, [], ◌∷◌, ◌++◌, ℕ}
use Rattle.std.proofs.Math.Option.{Option, none, some}
use Rattle.definition.specs.Edition.{Edition}
use Rattle.definition.specs.Texts.{txt}
use Rattle.definition.specs.Lists.{among, or_else, given}
use Rattle.definition.specs.Contents.{block_word, block_long, stmt_long, text_at}
use Rattle.definition.specs.Owners.{stmt_field}
use Rattle.definition.specs.Ssa.{Expr}
use Rattle.definition.specs.Read.{when, read}
use Rattle.definition.specs.Lookup.{order, is_next}
use Rattle.definition.specs.Tokens.{Token, Line, keyword, symbol, punct}
use Rattle.definition.specs.Condition.{condition}
use Rattle.definition.specs.Lower.{goto_tokens}
use Rattle.labels.specs.Labels.{next_at}
use Rattle.lowering.specs.Lowered.{lowering_of, here_at}
use Rattle.gotos.specs.Written.{uses_of, name_of, stmt_line, to_block, computed_tokens, leave_of}

-- ---- a conditional branch of block b
unfoldable pub condition_of : Edition → List ℕ → ℕ → ℕ → List Token
condition_of E f b i = condition (lowering_of E f).gen (here_at E f b).block.stmts (text_at E f (stmt_field f i 1) (stmt_field f i 2))

-- `if (C`
unfoldable pub if_tokens : Edition → List ℕ → ℕ → ℕ → List Token
if_tokens E f b i = keyword (txt "if") ∷ punct (txt " (") ∷ condition_of E f b i

-- a branch's own target
abbrev pub own_of : List ℕ → ℕ → Option ℕ
own_of f i = when (stmt_field f i 3) (stmt_long f i 8)

-- where it goes: the block's taken edge, else its own target, else 0
unfoldable pub aim_of : List ℕ → ℕ → ℕ → ℕ
aim_of f b i = given 0 (or_else (when (block_word f b 2) (block_long f b 3)) (own_of f i))

unfoldable pub test_tokens : Edition → List ℕ → ℕ → ℕ → List Token
test_tokens E f b i = if_tokens E f b i ++ (punct (txt ") ") ∷ goto_tokens (symbol (name_of E f (aim_of f b i))))

-- and where the block falls to
unfoldable pub fall_to : Edition → List ℕ → ℕ → ℕ → Option ℕ → List Line
fall_to E f b i none = []
fall_to E f b i (some a) = cond (is_next (next_at f b) a) [] (stmt_line f i (goto_tokens (symbol (name_of E f a))))

unfoldable pub fall_of : Edition → List ℕ → ℕ → ℕ → List Line
fall_of E f b i = fall_to E f b i (when (block_word f b 5) (block_long f b 6))

unfoldable pub if_lines : Edition → List ℕ → ℕ → ℕ → List Line
if_lines E f b i = stmt_line f i (test_tokens E f b i) ++ fall_of E f b i

-- ---- a plain branch: to a, and to wherever it goes, with m of its n uses as arguments
unfoldable pub jump_of : Edition → List ℕ → ℕ → ℕ → ℕ → List Expr → List Line
jump_of E f b i a xs = cond (among a (order (read E f))) (to_block f b i a) (leave_of E f i a xs)

unfoldable pub plain_to : Edition → List ℕ → ℕ → ℕ → ℕ → ℕ → ℕ → Option ℕ → List Line
plain_to E f b i item n m none = stmt_line f i (computed_tokens E f item n)
plain_to E f b i item n m (some a) = jump_of E f b i a (uses_of E f item m)

-- its own target, else where the block goes
unfoldable pub goal_of : List ℕ → ℕ → ℕ → Option ℕ
goal_of f b i = or_else (own_of f i) (when (block_word f b 2) (block_long f b 3))

unfoldable pub plain_of : Edition → List ℕ → ℕ → ℕ → ℕ → ℕ → List Line
plain_of E f b i item count = plain_to E f b i item (stmt_field f i 6) (min count (stmt_field f i 6)) (goal_of f b i)
