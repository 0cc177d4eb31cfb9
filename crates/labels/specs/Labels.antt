-- Which blocks have a label: where blocks and branches go, by the records of the file, each looked up among the blocks' starts.
use Rattle.std.specs.Prelude.{Option as Answer, Some, None, ◌≡◌, cond, List, [], ◌++◌, map, ℕ, zero, suc, ◌+◌, eqb, ltb, set}
use Rattle.std.proofs.Math.Option.{Option, none, some}
use Rattle.definition.specs.Codes.{k_branch}
use Rattle.definition.specs.Edition.{Edition, blocks}
use Rattle.definition.specs.Lists.{among}
use Rattle.definition.specs.Contents.{size, block_word, block_long, stmt_long}
use Rattle.definition.specs.Owners.{stmt_kind, stmt_field}
use Rattle.definition.specs.Ssa.{Block}
use Rattle.definition.specs.Read.{when, read}
use Rattle.definition.specs.Lookup.{option_list, unless_next, jumps_from}
use Rattle.definition.specs.Listing.{padded}

-- the first of m numbers from b on at which g has a, if one has it
unfoldable pub found_from : (ℕ → ℕ) → ℕ → ℕ → ℕ → Answer ℕ
found_from g a b zero = None
found_from g a b (suc m) = cond (eqb (g b) a) (Some b) (found_from g a (b + 1) m)

-- where block i begins
unfoldable pub start_at : List ℕ → ℕ → ℕ
start_at f i = block_long f i 0

-- the first block that begins at a, if one does
unfoldable pub block_of : List ℕ → ℕ → Answer ℕ
block_of f a = found_from (start_at f) a 0 (size f blocks)

-- that block is marked, if there is one
unfoldable pub with_mark : List ℕ → Answer ℕ → List ℕ
with_mark t None = t
with_mark t (Some b) = set t b 1

unfoldable pub labelled : List ℕ → List ℕ → ℕ → List ℕ
labelled f t a = with_mark t (block_of f a)

-- the start of the block behind b
unfoldable pub next_at : List ℕ → ℕ → Option ℕ
next_at f b = cond (ltb (b + 1) (size f blocks)) (some (start_at f (b + 1))) none

-- where block b goes when its branch is taken, where it falls to other than into the next, and both
unfoldable pub taken_at : List ℕ → ℕ → List ℕ
taken_at f b = option_list (when (block_word f b 2) (block_long f b 3))

unfoldable pub fall_at : List ℕ → ℕ → List ℕ
fall_at f b = unless_next (next_at f b) (when (block_word f b 5) (block_long f b 6))

unfoldable pub edges_at : List ℕ → ℕ → List ℕ
edges_at f b = taken_at f b ++ fall_at f b

-- the target of statement i, if it is a branch that has one
unfoldable pub target_at : List ℕ → ℕ → List ℕ
target_at f i = cond (eqb (stmt_kind f i) k_branch) (option_list (when (stmt_field f i 3) (stmt_long f i 8))) []

-- t, of n numbers, says of each block whether it has a label
abbrev pub Labels : List ℕ → ℕ → List ℕ → Type 0
Labels f n t = (E : Edition) → t ≡ padded n (map (λ (b : Block). cond (among b.start (jumps_from (read E f).blocks)) 1 0) (read E f).blocks)
