-- Whether half of the marks is odd is what the definition tests for mark 2.
use Rattle.statements.proofs.Laws.{mark_is}
use Rattle.statements.proofs.statement.Stmt.flags.Goals as goal

pub returns : goal.returns
returns c = mark_is _
