-- Joining the inputs from the j-th on gives at every turn the roots that joining all gives; each turn is one union.
use mathlib.Core.Path.{◌≡◌}
use Prim.Native.Nat.{◌+◌, ◌≤◌, ◌-◌}
use lib.ListN.{length}
use Rattle.unions.specs.Roots.{roots_of}
use Rattle.classes.specs.Joined.{join_run}
use Rattle.classes.proofs.join_run.Given as goal

abbrev pub invariant-loop-j : goal.invariant-loop-j
invariant-loop-j l = (join_run l.keys l.numbers (roots_of l.keys l.initial.roots) l.a l.k l.n ≡ join_run l.keys l.numbers (roots_of l.keys l.roots) l.a (l.k + l.j) (l.n - l.j)) × (l.j ≤ l.n) × (length l.roots ≡ length l.initial.roots)
