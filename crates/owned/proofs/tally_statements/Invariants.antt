-- The tally of the roots of statements from i on is that of them all; `first` is where the items of i begin, and all items are few.
use mathlib.Core.Path.{◌≡◌}
use Prim.Native.Nat.{◌-◌}
use lib.ListN.{length}
use Rattle.definition.specs.Lists.{gather, range}
use Rattle.definition.specs.Edition.{statements}
use Rattle.definition.specs.Contents.{size}
use Rattle.definition.specs.Owners.{first_item}
use Rattle.definition.specs.References.{roots}
use Rattle.owned.specs.Tally.{tally}
use Rattle.owned.proofs.tally_statements.Given as goal

abbrev pub invariant-loop-i : goal.invariant-loop-i
invariant-loop-i l = (tally l.initial.table (gather (roots l.f) (range 0 (size l.f statements))) ≡ tally l.table (gather (roots l.f) (range l.i (l.i-end - l.i)))) × (l.first ≡ first_item l.f l.i) × (l.i-end ≡ size l.f statements) × (length l.table ≡ length l.initial.table)
