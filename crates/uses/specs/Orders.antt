-- The tables that hold the Use nodes of all statements, in scratch of m and n numbers.
use Rattle.std.specs.Prelude.{◌≡◌, true, List, ℕ, suc, ◌≤◌, ◌<◌, length, replicate}
use Rattle.definition.specs.Edition.{statements}
use Rattle.definition.specs.Contents.{size}
use Rattle.definition.specs.Shape.{owned}
use Rattle.definition.specs.Listing.{padded}
use Rattle.uses.specs.Uses.{use_order, use_starts}

-- the nodes, and where those of each statement begin; zeros behind both
pub record Ordered (f : List ℕ) (m n : ℕ) (order starts : List ℕ) : Type 0 where
  pub nodes : order ≡ padded m (use_order f)
  pub begins : starts ≡ padded n (use_starts f)

-- what is asked before they are written: both are zeros, with room for all
pub record Ready (f order starts : List ℕ) : Type 0 where
  pub own : owned f ≡ true
  pub clear : order ≡ replicate (length order) 0
  pub cleared : starts ≡ replicate (length starts) 0
  pub room : length (use_order f) ≤ length order
  pub small : length order < 4294967296
  pub long : suc (size f statements) ≤ length starts
