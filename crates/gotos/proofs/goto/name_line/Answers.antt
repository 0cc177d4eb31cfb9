-- The tokens of a goto to the name are put, and their line ends at the statement's address.
use Rattle.gotos.proofs.Lines.{stmt_put}
use Rattle.gotos.proofs.goto.name_line.Goals as goal

pub returns : goal.returns
returns c = λ E s. stmt_put _ _ _ _ _ _ _ _ _ _ (c.put_goto_name-out.ensures E s) c.end_stmt.ensures
