-- Below 2^63 it is a variable, by what is missing to 2^63; from there on an argument, by what is over.
use Rattle.digits.proofs.Texts.{slot_below, slot_above}
use Rattle.leaf.proofs.Leaves.{leaf_as}
use Rattle.digits.proofs.slot.Goals as goal

pub returns-then-s-lt-HALF : goal.returns-then-s-lt-HALF
returns-then-s-lt-HALF c = leaf_as c.behind.ensures (slot_below _ c.if-s-lt-HALF.true)

pub returns : goal.returns
returns c = leaf_as c.behind-2.ensures (slot_above _ c.if-s-lt-HALF.false)
