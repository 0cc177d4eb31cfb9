-- From the file's end on there is nothing, up to it what the file has left, and within it all that was asked for.
use native.Mathlib.Omega.{arith}
use Rattle.flags.proofs.Parts.{clip_is}
use Rattle.flags.proofs.spans.clip.Goals as goal

pub returns : goal.returns
returns c = clip_is _ _ _ _ _ _ _ c.min.ensures c.saturating_add.ensures c.min-2.ensures (omega arith)
