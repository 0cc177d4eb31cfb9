-- The table has each value's last live reader below i; i + 1 at the nodes of statement i makes it that below i + 1.
use Rattle.reads.specs.Counts.{reader_below}
use Rattle.values.specs.Tables.{table}
use Rattle.definition.specs.Edition.{statements}
use mathlib.Core.Path.{◌≡◌}
use Rattle.places.specs.Keys.{places_of}
use Rattle.definition.specs.Contents.{size}
use lib.ListN.{length}
use Prim.Native.Nat.{◌≤◌}
use Rattle.reads.proofs.readers.Given as goal

abbrev pub invariant-loop-i : goal.invariant-loop-i
invariant-loop-i l = (l.tab ≡ table l.f (length l.numbers) (reader_below l.f l.i)) × (l.n ≡ size l.f statements) × (l.base ≡ (places_of l.f).exprs) × (l.i ≤ l.n) × (length l.tab ≡ length l.initial.tab)
