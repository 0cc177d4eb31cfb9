-- From x on the walk finds what it finds from the top on; it ends at the key, at no place or at one not lower, else x falls.
use mathlib.Core.Path.{◌≡◌}
use Prim.Native.Nat.{◌≤◌}
use Rattle.values.specs.Chains.{walked}
use Rattle.values.proofs.numbers.walk.Given as goal

abbrev pub invariant-loop-x : goal.invariant-loop-x
invariant-loop-x l = (walked l.keys l.next l.k l.top ≡ walked l.keys l.next l.k l.x) × (l.x ≤ l.top)

abbrev pub decreases-loop-x : goal.decreases-loop-x
decreases-loop-x l = l.x
