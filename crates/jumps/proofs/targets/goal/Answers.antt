-- Its own target, otherwise the taken edge of the block's record.
use Rattle.jumps.proofs.Testing.{goal_is}
use Rattle.jumps.proofs.targets.goal.Goals as goal

pub returns : goal.returns
returns c = goal_is _ _ _ _ c.block_at.ensures _ c.own.ensures _ c.or.ensures
