-- Behind a call that takes them no push waits, so they wait from behind it on; any other statement adds itself if it is a push.
use Rattle.calls.proofs.Waits.{wait_none, wait_on}
use Rattle.calls.proofs.pushes.from_behind.Goals as goal

pub returns-then-takes_pushes : goal.returns-then-takes_pushes
returns-then-takes_pushes c = λ E h. wait_none E _ _ _ _ c.takes_pushes.ensures h c.if-takes_pushes.true

pub returns-else-takes_pushes : goal.returns-else-takes_pushes
returns-else-takes_pushes c = λ E h. wait_on E _ _ _ _ c.takes_pushes.ensures h c.if-takes_pushes.false
