-- The bytes from k on, trimmed, are the whole trimmed; as long as they begin with sub_, four more go, so the rest falls.
use Prim.Native.Nat.{◌-◌}
use Rattle.calls.proofs.Trims.{Going}
use Rattle.calls.proofs.trim.trim_sub.Given as goal

abbrev pub invariant-loop-k : goal.invariant-loop-k
invariant-loop-k l = Going l.f l.at l.n l.k

abbrev pub decreases-loop-k : goal.decreases-loop-k
decreases-loop-k l = l.n - l.k
