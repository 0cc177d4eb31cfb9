-- The size is the load's and the constant its child's, so the name put is that of the global that is loaded.
use Rattle.calling.proofs.Slots.{slot_put}
use Rattle.calling.proofs.callee.put_slot.Goals as goal

pub returns : goal.returns
returns c = slot_put _ _ _ _ _ _ _ _ c.expr_word-size.ensures c.expr_word.ensures c.expr_long-c.ensures c.put_global.ensures
