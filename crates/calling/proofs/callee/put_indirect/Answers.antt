-- Without an item nothing is put; else the first one is the target: by its name where it loads a global, and any other tree in `(*` and `)`.
use Rattle.calling.proofs.Slots.{first_slot, first_computed, indirect_none, indirect_first}
use Rattle.calling.proofs.callee.put_indirect.Goals as goal

pub returns-then-n-eq0 : goal.returns-then-n-eq0
returns-then-n-eq0 c = λ E s. indirect_none E _ _ _ _ c.if-n-eq0.true

pub returns-then-is_slot : goal.returns-then-is_slot
returns-then-is_slot c = λ E s. indirect_first E _ _ _ _ _ _ c.if-n-eq0.false c.item_word-x.ensures (first_slot E _ _ _ _ _ _ c.is_slot.ensures c.if-is_slot.true s c.put_slot.ensures)

pub returns : goal.returns
returns c = λ E s. indirect_first E _ _ _ _ _ _ c.if-n-eq0.false c.item_word-x.ensures (first_computed E _ _ _ _ _ c.is_slot.ensures c.if-is_slot.false (c.put_within.ensures E s))
