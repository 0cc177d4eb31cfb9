-- The operator's text begins word 1 behind the text section's offset and has word 2 bytes; its only byte is the answer.
use Rattle.sums.proofs.Nodes.{op_is}
use Rattle.sums.proofs.reading.op_byte.Goals as goal

pub returns : goal.returns
returns c = op_is _ _ _ _ _ _ _ c.offset_of.ensures c.expr_word.ensures c.expr_word-2.ensures c.byte_of.ensures
