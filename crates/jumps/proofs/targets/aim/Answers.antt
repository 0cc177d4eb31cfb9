-- The taken edge of the block's record, else the branch's own target, else 0.
use Rattle.jumps.proofs.Testing.{aim_is}
use Rattle.jumps.proofs.targets.aim.Goals as goal

pub returns : goal.returns
returns c = rw c.unwrap_or.ensures (aim_is _ _ _ _ c.block_at.ensures _ c.own.ensures _ c.or.ensures)
