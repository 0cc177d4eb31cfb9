-- With room the number is put and the next place is one further; without, all stays, which is what putting it means there.
use Rattle.uses.proofs.Filling.{put_in, put_out}
use Rattle.uses.proofs.order.write.Goals as goal

pub returns-then-k-order : goal.returns-then-k-order
returns-then-k-order c = put_in _ _ _ c.if-k-order.true

pub returns : goal.returns
returns c = put_out _ _ _ c.if-k-order.false
