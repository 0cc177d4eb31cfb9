-- An address where a block starts is a jump to that block; any other leaves the function.
use Rattle.jumps.proofs.Branching.{jump_block, jump_out}
use Rattle.jumps.proofs.branch.jump_to.Goals as goal

pub returns-then-is_block : goal.returns-then-is_block
returns-then-is_block c = λ E s. jump_block E _ _ _ _ _ _ (c.is_block.ensures E) _ _ c.if-is_block.true c.to_block.ensures

pub returns : goal.returns
returns c = λ E s. jump_out E _ _ _ _ _ _ (c.is_block.ensures E) _ _ c.if-is_block.false (c.leave.ensures E s)
