-- The record says whether the block has a taken edge: if so its one address is marked, and if not there is none to mark.
use Rattle.labels.proofs.Labelling.{taken_there, taken_none}
use Rattle.labels.proofs.label_taken.Goals as goal

pub returns-then-block_word-eq1 : goal.returns-then-block_word-eq1
returns-then-block_word-eq1 c = taken_there _ _ _ _ _ _ c.block_word.ensures c.if-block_word-eq1.true c.block_long.ensures c.label_at.ensures

pub returns-else-block_word-eq1 : goal.returns-else-block_word-eq1
returns-else-block_word-eq1 c = taken_none _ _ _ _ c.block_word.ensures c.if-block_word-eq1.false
