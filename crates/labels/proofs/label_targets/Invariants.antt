-- The targets of the statements before i are marked and the rest is left to visit; behind the last statement nothing is left.
use mathlib.Core.Path.{◌≡◌}
use Prim.Native.Nat.{◌-◌}
use lib.ListN.{length}
use Rattle.definition.specs.Edition.{statements}
use Rattle.definition.specs.Contents.{size}
use Rattle.definition.specs.Lists.{gather, range}
use Rattle.reads.specs.Counts.{visit}
use Rattle.labels.specs.Labels.{labelled, target_at}
use Rattle.labels.proofs.label_targets.Given as goal

abbrev pub invariant-loop-i : goal.invariant-loop-i
invariant-loop-i l = (visit (labelled l.f) l.initial.tab (gather (target_at l.f) (range 0 (size l.f statements))) ≡ visit (labelled l.f) l.tab (gather (target_at l.f) (range l.i (l.n - l.i)))) × (l.n ≡ size l.f statements) × (length l.tab ≡ length l.initial.tab)
