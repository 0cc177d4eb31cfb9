-- The start of the next block is left out; any other address exactly where no block starts.
use Rattle.gotos.proofs.Ends.{out_next, out_other}
use Rattle.gotos.proofs.closing.is_left_out.Goals as goal

pub returns-then-is_next : goal.returns-then-is_next
returns-then-is_next c = λ E. out_next _ _ _ c.is_next.ensures c.if-is_next.true

pub returns-else-is_next : goal.returns-else-is_next
returns-else-is_next c = λ E. out_other _ _ _ _ c.is_next.ensures c.if-is_next.false (c.is_block.ensures E)
