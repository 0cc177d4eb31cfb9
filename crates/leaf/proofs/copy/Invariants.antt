-- Without room nothing is touched; else the first i bytes are the source's and the rest is as it was, until i is the source's length.
use lib.ListN.{length, take, drop}
use mathlib.Core.List.{◌++◌}
use mathlib.Core.Path.{◌≡◌}
use Rattle.leaf.proofs.copy.Given as goal

abbrev pub invariant-loop-i : goal.invariant-loop-i
invariant-loop-i l = (l.dst ≡ take l.i l.initial.src ++ drop l.i l.initial.dst) × (length l.dst ≡ length l.initial.dst)
