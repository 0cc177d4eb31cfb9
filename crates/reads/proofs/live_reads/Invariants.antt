-- The live statements from i on are left to raise; zeros raised at the nodes of all count the reads of each value.
use Rattle.reads.proofs.Visits.{live_from}
use Rattle.reads.specs.Counts.{raised, visit, slots}
use Rattle.definition.specs.Edition.{statements}
use mathlib.Core.Path.{◌≡◌}
use Rattle.places.specs.Keys.{places_of}
use Rattle.definition.specs.Contents.{size}
use lib.ListN.{length}
use Prim.Native.Nat.{◌-◌}
use Rattle.reads.proofs.live_reads.Given as goal

abbrev pub invariant-loop-i : goal.invariant-loop-i
invariant-loop-i l = (visit raised l.initial.tab (slots l.numbers l.base (live_from l.f 0 (size l.f statements))) ≡ visit raised l.tab (slots l.numbers l.base (live_from l.f l.i (l.n - l.i)))) × (l.n ≡ size l.f statements) × (l.base ≡ (places_of l.f).exprs) × (length l.tab ≡ length l.initial.tab)
