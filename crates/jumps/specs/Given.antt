-- Where a branch stands: in a block, with its uses from a list item on.
use Rattle.std.specs.Prelude.{◌≡◌, true, List, ℕ, ◌<◌}
use Rattle.definition.specs.Codes.{k_branch}
use Rattle.definition.specs.Edition.{blocks, statements}
use Rattle.definition.specs.Contents.{size}
use Rattle.definition.specs.Owners.{stmt_kind, first_item}
use Rattle.definition.specs.Shape.{owned}

pub record BranchAt (f : List ℕ) (block i item : ℕ) : Type 0 where
  pub kind : stmt_kind f i ≡ k_branch
  pub inside : block < size f blocks
  pub here : i < size f statements
  pub first : item ≡ first_item f i
  pub own : owned f ≡ true
