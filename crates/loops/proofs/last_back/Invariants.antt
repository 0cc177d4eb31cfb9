-- The answer is the back edge found last, unless the search from j on has a later one; an end, and no rows left, have none.
use Rattle.passes.proofs.Goals.{unless_later}
use Rattle.passes.specs.Regions.{found, back_from}
use mathlib.Core.Path.{◌≡◌}
use Prim.Native.Nat.{◌-◌}
use Rattle.loops.proofs.last_back.Given as goal

abbrev pub invariant-loop-j : goal.invariant-loop-j
invariant-loop-j l = found l.n (back_from l.n l.m l.d l.rows l.i (l.n - l.i)) ≡ unless_later l.n l.last (back_from l.n l.m l.d l.rows l.j (l.n - l.j))
