-- The target's text decides: a computed call prints its first item, any other the name that the text gives a direct call.
use Rattle.calling.proofs.Slots.{target_computed, target_direct}
use Rattle.calling.proofs.callee.put_target.Goals as goal

pub returns-then-is_indirect : goal.returns-then-is_indirect
returns-then-is_indirect c = λ E s. target_computed E _ _ _ _ _ c.stmt_field-start.ensures c.stmt_field-len.ensures _ (c.is_indirect.ensures E s) _ _ _ c.if-is_indirect.true c.stmt_field-n.ensures (c.put_indirect.ensures E s)

pub returns : goal.returns
returns c = λ E s. target_direct E _ _ _ _ _ c.stmt_field-start.ensures c.stmt_field-len.ensures _ (c.is_indirect.ensures E s) _ _ c.if-is_indirect.false (c.put_direct.ensures E s)
