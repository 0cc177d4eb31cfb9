-- The rows of the part up to the index are raised, those behind stand as they did.
use Rattle.outline.specs.Forming.{raised}
use mathlib.Core.List.{map, ◌++◌}
use mathlib.Core.Path.{◌≡◌}
use lib.ListN.{take, drop}
use Rattle.outline.proofs.forming.raise.Given as goal

abbrev pub invariant-loop-row : goal.invariant-loop-row
invariant-loop-row l = l.row-items ≡ map raised (take l.row-index l.initial.row-items) ++ drop l.row-index l.initial.row-items
