-- What the analyses ask of a file, with the limits of edition 1.
use Rattle.std.specs.Prelude.{◌≡◌, true, List, ℕ, ◌≤◌, length}
use Rattle.definition.specs.Edition.{blocks, statements, expressions}
use Rattle.definition.specs.Lists.{distinct}
use Rattle.definition.specs.Contents.{size}
use Rattle.definition.specs.Shape.{owned}
use Rattle.definition.specs.Meaning.{registers, starts, defined_once}
use Rattle.places.specs.Keys.{places_of}
use Rattle.uses.specs.Uses.{use_order}

-- owners' counts come out, registers are registers, starts differ, values are defined once, no node is read twice, and nothing is too many
pub record Sound (f : List ℕ) : Type 0 where
  pub own : owned f ≡ true
  pub registered : registers f ≡ true
  pub apart : distinct (starts f) ≡ true
  pub once : defined_once f ≡ true
  pub nodes : length (use_order f) ≤ size f expressions
  pub few_places : (places_of f).total ≤ 7696
  pub few_exprs : size f expressions ≤ 2048
  pub few_stmts : size f statements ≤ 1024
  pub few_blocks : size f blocks ≤ 320
