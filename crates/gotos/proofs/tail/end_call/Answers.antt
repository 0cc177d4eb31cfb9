-- Where the result is returned no line follows; else the keyword and `;` are put, and their line ends at the statement's address.
use Rattle.room.proofs.Laws.{next, one}
use Rattle.gotos.specs.Written.{end_tokens}
use Rattle.gotos.proofs.Leaving.{end_not, end_line}
use Rattle.gotos.proofs.Lines.{stmt_put}
use Rattle.gotos.proofs.tail.end_call.Goals as goal

pub returns-then-returns : goal.returns-then-returns
returns-then-returns c = end_not _ _ _ _ c.if-returns.true

pub returns : goal.returns
unfolding end_tokens
returns c = end_line _ _ _ _ _ c.if-returns.false (stmt_put _ _ _ _ _ _ _ _ _ _ (next _ _ _ _ c.put-out.ensures (one _ _ _ c.put-out-2.ensures)) c.end_stmt.ensures)
