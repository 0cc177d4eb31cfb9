-- The tokens of the call, whose line ends at the statement's address, then `return;` where the function returns nothing: the two lists of lines stand one behind the other.
use Rattle.gotos.proofs.Leaving.{tail_put}
use Rattle.gotos.proofs.Lines.{stmt_put}
use Rattle.gotos.proofs.tail.tail_call.Goals as goal

pub returns : goal.returns
returns c = λ E s. tail_put E _ _ _ _ _ c.word_at-returns.ensures _ _ _ (stmt_put _ _ _ _ _ _ _ _ _ _ (c.put_call-out.ensures E s) c.end_stmt-out.ensures) c.end_call.ensures
