-- The statements before i are ticked and those from i on are left; at the end the ticks, from zeros on, are what is really read at entry.
use Rattle.names.specs.Spots.{entry_spots, ticked}
use Rattle.places.specs.Keys.{places_of}
use Rattle.definition.specs.Lists.{gather, range}
use Rattle.definition.specs.Contents.{size}
use Rattle.definition.specs.Edition.{statements}
use lib.ListN.{length}
use Prim.Native.Nat.{◌-◌}
use mathlib.Core.Path.{◌≡◌}
use Rattle.names.proofs.entry.entry_reads.Given as goal

abbrev pub invariant-loop-i : goal.invariant-loop-i
invariant-loop-i l = (ticked l.numbers l.initial.tab (gather (entry_spots l.f) (range 0 (size l.f statements))) ≡ ticked l.numbers l.tab (gather (entry_spots l.f) (range l.i (l.n - l.i)))) × (l.n ≡ size l.f statements) × (l.from ≡ (places_of l.f).exprs) × (length l.tab ≡ length l.initial.tab)
