-- The address is the record's first number and the marks are word 2; with the kind they are the whole statement.
use Rattle.statements.specs.Statement.{stmt_record}
use Rattle.statements.proofs.statement.stmt_at.Goals as goal

pub returns : goal.returns
unfolding stmt_record
returns c = cc
