-- How many uses there are is the statement's field; the computed goto's tokens are put and their line ends at the statement's address.
use Rattle.gotos.proofs.Lines.{stmt_put, computed_all}
use Rattle.gotos.proofs.jump.computed.Goals as goal

pub returns : goal.returns
returns c = λ E s. stmt_put _ _ _ _ _ _ _ _ _ _ (computed_all E _ _ _ _ _ _ c.stmt_field-n.ensures (c.put_computed-out.ensures E s)) c.end_stmt.ensures
