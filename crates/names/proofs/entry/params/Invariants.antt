-- No argument register above the first i is read, so the count among these is that of all; one that is read ends it, or 0, to which i falls.
use Rattle.names.proofs.Params.{is_read}
use Rattle.names.specs.Spots.{up_to}
use Rattle.definition.specs.Contents.{size}
use Rattle.definition.specs.Edition.{args}
use Prim.Native.Nat.{◌≤◌}
use mathlib.Core.Path.{◌≡◌}
use Rattle.names.proofs.entry.params.Given as goal

abbrev pub invariant-loop-i : goal.invariant-loop-i
invariant-loop-i l = (up_to (is_read l.numbers l.entry) (size l.f args) ≡ up_to (is_read l.numbers l.entry) l.i) × (l.i ≤ size l.f args)
