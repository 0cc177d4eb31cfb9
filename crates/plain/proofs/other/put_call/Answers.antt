-- The name, ` = `, the keyword and the text between its brackets: the four tokens in order.
use Rattle.plain.proofs.Printing.{call_put}
use Rattle.plain.proofs.other.put_call.Goals as goal

pub returns : goal.returns
returns c = λ E s. call_put _ _ _ _ _ _ _ _ _ c.bits_of-width.ensures c.put_code-out.ensures c.put-out.ensures c.put-out-2.ensures (c.put_between.ensures E s)
