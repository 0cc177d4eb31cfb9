-- A dead call has no line; a live one's record is the definition's Call, so the tokens put are its tokens, ended at its address.
use Rattle.lowering.proofs.Lines.{left_out, not_out, line_put}
use Rattle.calling.proofs.Whole.{call_lines}
use Rattle.calling.proofs.call.call.Goals as goal

pub returns-then-is_dead : goal.returns-then-is_dead
returns-then-is_dead c = λ E H set end s n. left_out _ _ _ _ (call_lines E _ _ _ _ _ c.requires.call_at set n H end) c.is_dead.ensures _ c.if-is_dead.true

pub returns : goal.returns
returns c = λ E H set end s n. line_put _ _ _ _ _ _ _ _ _ _ (not_out _ _ _ _ (call_lines E _ _ _ _ _ c.requires.call_at set n H end) c.is_dead.ensures c.if-is_dead.false) (c.put_call-out.ensures E s) c.end_stmt.ensures
