-- A dead Return has no line; a live one's tokens are put, and its line ends at its address.
use Rattle.lowering.proofs.Lines.{left_out, not_out, line_put}
use Rattle.plain.proofs.Lines.{return_lines}
use Rattle.plain.proofs.returns.returns.Goals as goal

pub returns-then-is_dead : goal.returns-then-is_dead
returns-then-is_dead c = λ E H pend set s. left_out _ _ _ _ (return_lines E _ H pend set _ _ c.requires.i_value) c.is_dead.ensures _ c.if-is_dead.true

pub returns : goal.returns
returns c = λ E H pend set s. line_put _ _ _ _ _ _ _ _ _ _ (not_out _ _ _ _ (return_lines E _ H pend set _ _ c.requires.i_value) c.is_dead.ensures c.if-is_dead.false) (c.put_return-out.ensures E s) c.end_stmt.ensures
