-- A call that is itself a push takes none of the pushes that wait; any other takes them all.
use Rattle.calling.proofs.Whole.{waiting_none, waiting_all}
use Rattle.calling.proofs.args.put_waiting.Goals as goal

pub returns-then-is_pushed : goal.returns-then-is_pushed
returns-then-is_pushed c = λ E s. waiting_none E _ _ _ _ _ c.is_pushed.ensures c.if-is_pushed.true

pub returns : goal.returns
returns c = λ E s. waiting_all E _ _ _ _ _ _ c.is_pushed.ensures c.if-is_pushed.false (c.put_pushed.ensures E s)
