-- Into the next block no line is needed; elsewhere the goto's tokens are put, and their line ends at the statement's address.
use Rattle.gotos.proofs.Lines.{block_next, block_put, stmt_put}
use Rattle.gotos.proofs.jump.to_block.Goals as goal

pub returns-then-is_next : goal.returns-then-is_next
returns-then-is_next c = block_next _ _ _ _ _ c.is_next.ensures _ c.if-is_next.true

pub returns : goal.returns
returns c = block_put _ _ _ _ _ c.is_next.ensures _ _ c.if-is_next.false (stmt_put _ _ _ _ _ _ _ _ _ _ c.put_goto-out.ensures c.end_stmt.ensures)
