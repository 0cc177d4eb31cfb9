-- No fall, or a fall into the next block, gives no line; any other gives the goto to the name of where the block falls.
use Rattle.jumps.proofs.Testing.{fall_none, fall_next, fall_put}
use Rattle.jumps.proofs.conditional.fall_line.Goals as goal

pub returns-in_default : goal.returns-in_default
returns-in_default c = λ E s. fall_none E _ _ _ _ c.block_at.ensures _ c.in_default.is

pub returns-then-is_next : goal.returns-then-is_next
returns-then-is_next c = λ E s. fall_next E _ _ _ _ c.block_at.ensures _ c.in-Some.is _ c.is_next.ensures _ c.if-is_next.true

pub returns : goal.returns
returns c = λ E s. fall_put E _ _ _ _ c.block_at.ensures _ c.in-Some.is _ c.is_next.ensures _ _ c.if-is_next.false (c.name_line.ensures E s)
