-- The tokens of the test, whose line ends at the statement's address, then the line of the fall if there is one: in order they are the branch's.
use Rattle.gotos.proofs.Lines.{stmt_put}
use Rattle.jumps.proofs.Testing.{if_lines_lem}
use Rattle.jumps.proofs.conditional.conditional.Goals as goal

pub fall_line-requires : goal.fall_line-requires
fall_line-requires c = c.requires.block_bound

pub returns : goal.returns
returns c = λ E s. if_lines_lem E _ _ _ _ _ _ (stmt_put _ _ _ _ _ _ _ _ _ _ (c.put_test-out.ensures E s) c.end_stmt-out.ensures) (c.fall_line.ensures E s)
