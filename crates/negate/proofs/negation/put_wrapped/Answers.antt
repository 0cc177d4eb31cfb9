-- The pieces `!(`, the condition's tokens and `)`, put one behind the other, are the wrapped condition.
use Rattle.room.proofs.Laws.{next, more, done}
use Rattle.negate.proofs.negation.put_wrapped.Goals as goal

pub returns : goal.returns
returns c = next _ _ _ _ c.put-out.ensures (more _ _ _ _ _ c.put_clip-out.ensures (next _ _ _ _ c.put.ensures (done _)))
