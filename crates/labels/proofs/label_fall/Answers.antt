-- A block that does not fall, or falls into the next, has no address to mark; any other marks the one that it falls to.
use Rattle.labels.proofs.Labelling.{fall_none, fall_next, fall_there}
use Rattle.labels.proofs.label_fall.Goals as goal

pub returns-then-block_word-ne1 : goal.returns-then-block_word-ne1
returns-then-block_word-ne1 c = fall_none _ _ _ _ c.block_word.ensures c.if-block_word-ne1.true

pub returns-then-is_next : goal.returns-then-is_next
returns-then-is_next c = fall_next _ _ _ _ _ _ c.block_word.ensures c.if-block_word-ne1.false c.block_long-a.ensures c.is_next.ensures c.if-is_next.true

pub returns : goal.returns
returns c = fall_there _ _ _ _ _ _ _ c.block_word.ensures c.if-block_word-ne1.false c.block_long-a.ensures c.is_next.ensures c.if-is_next.false c.label_at.ensures
