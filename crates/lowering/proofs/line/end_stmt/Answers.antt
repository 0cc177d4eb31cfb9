-- The address read is the statement's own, so the line that ends there ends where the contract says.
use Rattle.lowering.proofs.Lines.{ends_at}
use Rattle.lowering.proofs.line.end_stmt.Goals as goal

pub returns : goal.returns
returns c = ends_at _ _ _ _ _ _ _ c.stmt_long.ensures c.end_line.ensures
