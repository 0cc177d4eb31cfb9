-- Where the result is returned the keyword and a space are put, the definition's two tokens; else there is none and the room stays.
use Rattle.gotos.proofs.Leaving.{return_not, return_put}
use Rattle.gotos.proofs.named.put_return_if.Goals as goal

pub returns-then-returns : goal.returns-then-returns
returns-then-returns c = return_put _ _ _ _ c.if-returns.true c.put-out.ensures c.put.ensures

pub returns : goal.returns
returns c = return_not _ _ c.if-returns.false
