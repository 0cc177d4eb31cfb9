-- Each field is a number of the block's record, a test of one against 1, or a count of the block's parts, in code and definition alike.
use Rattle.ssa.specs.Block.{block_record}
use Rattle.ssa.proofs.block.block_at.Goals as goal

pub returns : goal.returns
unfolding block_record
returns c = cc
