-- The first i statements name expressions that are there, and `first` is the sum of their items, which is at most the sum of all and so fits.
use mathlib.Core.Path.{◌≡◌}
use mathlib.Core.Bool.{true}
use Prim.Native.Nat.{◌≤◌}
use Rattle.definition.specs.Lists.{all_below}
use Rattle.definition.specs.Edition.{statements}
use Rattle.definition.specs.Contents.{size}
use Rattle.definition.specs.Owners.{first_item}
use Rattle.definition.specs.References.{roots_inside}
use Rattle.references.proofs.all_roots_inside.Given as goal

abbrev pub invariant-loop-i : goal.invariant-loop-i
invariant-loop-i l = (all_below l.i (roots_inside l.f) ≡ true) × (l.first ≡ first_item l.f l.i) × (l.i-end ≡ size l.f statements) × (l.i ≤ l.i-end)
