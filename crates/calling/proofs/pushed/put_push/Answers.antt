-- A push puts its third field's expression as one more argument; any other statement puts nothing.
use Rattle.calling.proofs.Pushing.{push_is, push_not}
use Rattle.calling.proofs.pushed.put_push.Goals as goal

pub returns-then-is_push : goal.returns-then-is_push
returns-then-is_push c = λ E s. push_is E _ _ _ _ _ _ _ c.is_push.ensures c.if-is_push.true c.stmt_field-x.ensures (c.put_arg.ensures E s)

pub returns : goal.returns
returns c = λ E s. push_not E _ _ _ _ _ c.is_push.ensures c.if-is_push.false
