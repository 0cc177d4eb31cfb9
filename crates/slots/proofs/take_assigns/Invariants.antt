-- To take what Assigns from i on define, in the table so far, is to take it all; a value that fails ends it, and later ones do nothing.
use Prim.Native.Nat.{◌≤◌, ◌-◌}
use mathlib.Core.Path.{◌≡◌}
use mathlib.Core.Bool.{true}
use lib.ListN.{length}
use Rattle.definition.specs.Meaning.{assigned}
use Rattle.definition.specs.Lists.{gather, range}
use Rattle.definition.specs.Edition.{statements}
use Rattle.definition.specs.Contents.{size}
use Rattle.slots.specs.Slots.{slots, takes}
use Rattle.slots.proofs.take_assigns.Given as goal

abbrev pub invariant-loop-i : goal.invariant-loop-i
invariant-loop-i l = (takes (slots l.initial.table true) (gather (assigned l.f) (range 0 (size l.f statements))) ≡ takes (slots l.table true) (gather (assigned l.f) (range l.i (l.i-end - l.i)))) × (l.i ≤ l.i-end) × (length l.table ≡ length l.initial.table)
