-- The first i statements have their shape and `at` is where the next one's items begin, within 32 bits since all items are owned.
use mathlib.Core.Path.{◌≡◌}
use mathlib.Core.Bool.{true}
use Rattle.definition.specs.Shape.{stmt_shaped}
use Rattle.definition.specs.Owners.{first_item}
use Rattle.definition.specs.Lists.{all_below}
use Rattle.shape.proofs.stmts_shaped.Given as goal

abbrev pub invariant-loop-i : goal.invariant-loop-i
invariant-loop-i l = (all_below l.i (stmt_shaped l.f) ≡ true) × (l.at ≡ first_item l.f l.i)
