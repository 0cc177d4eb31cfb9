-- Expressions below i have their answers and zeros stand behind, which is the answer for a child that is not lower; a turn adds one.
use Rattle.uses.proofs.Loading.{loaded}
use Rattle.definition.specs.Contents.{size}
use Rattle.definition.specs.Edition.{expressions}
use lib.ListN.{length}
use Prim.Native.Nat.{◌≤◌}
use mathlib.Core.Path.{◌≡◌}
use Rattle.uses.proofs.loads.loads.Given as goal

abbrev pub invariant-loop-i : goal.invariant-loop-i
invariant-loop-i l = (l.loads ≡ loaded l.f (length l.initial.loads) l.i) × (l.n ≡ size l.f expressions) × (l.i ≤ l.n) × (length l.loads ≡ length l.initial.loads)
