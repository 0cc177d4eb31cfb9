-- To take the phis from i on, in the table so far, is to take them all; one that fails ends it, and later ones do nothing.
use Prim.Native.Nat.{◌≤◌, ◌-◌}
use mathlib.Core.Path.{◌≡◌}
use mathlib.Core.Bool.{true}
use lib.ListN.{length}
use Rattle.definition.specs.Lists.{gather, range}
use Rattle.definition.specs.Edition.{phis}
use Rattle.definition.specs.Contents.{size}
use Rattle.slots.specs.Slots.{slots, takes}
use Rattle.slots.proofs.Taking.{phi_list}
use Rattle.slots.proofs.take_phis.Given as goal

abbrev pub invariant-loop-i : goal.invariant-loop-i
invariant-loop-i l = (takes (slots l.initial.table true) (gather (phi_list l.f) (range 0 (size l.f phis))) ≡ takes (slots l.table true) (gather (phi_list l.f) (range l.i (l.i-end - l.i)))) × (l.i ≤ l.i-end) × (length l.table ≡ length l.initial.table)
