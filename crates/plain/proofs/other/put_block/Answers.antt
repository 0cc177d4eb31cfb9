-- The keyword, then the text between its braces as one token: the two tokens of the block.
use Rattle.room.proofs.Laws.{next}
use Rattle.plain.specs.Asm.{asm_block}
use Rattle.plain.proofs.other.put_block.Goals as goal

pub returns : goal.returns
unfolding asm_block
returns c = λ E s. next _ _ _ _ c.put-out.ensures (c.put_between.ensures E s)
