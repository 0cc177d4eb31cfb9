-- The edges of the blocks before b are marked and the rest is left to visit; a block's taken edge, then its fall, are its edges.
use mathlib.Core.Path.{◌≡◌}
use Prim.Native.Nat.{◌-◌}
use lib.ListN.{length}
use Rattle.definition.specs.Edition.{blocks}
use Rattle.definition.specs.Contents.{size}
use Rattle.definition.specs.Lists.{gather, range}
use Rattle.reads.specs.Counts.{visit}
use Rattle.labels.specs.Labels.{labelled, edges_at}
use Rattle.labels.proofs.label_edges.Given as goal

abbrev pub invariant-loop-b : goal.invariant-loop-b
invariant-loop-b l = (visit (labelled l.f) l.initial.tab (gather (edges_at l.f) (range 0 (size l.f blocks))) ≡ visit (labelled l.f) l.tab (gather (edges_at l.f) (range l.b (l.n - l.b)))) × (l.n ≡ size l.f blocks) × (length l.tab ≡ length l.initial.tab)
