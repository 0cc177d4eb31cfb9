-- Only ` (` stand between `from` and i, so trimming from i on is trimming all; to - i falls, since a ` (` that is found ends at `to` or before.
use Rattle.clips.proofs.Ranges.{Opening}
use Prim.Native.Nat.{◌-◌}
use Rattle.clips.proofs.clip.after_opens.Given as goal

abbrev pub invariant-loop-i : goal.invariant-loop-i
invariant-loop-i l = Opening l.text l.from l.to l.i

abbrev pub decreases-loop-i : goal.decreases-loop-i
decreases-loop-i l = l.to - l.i
