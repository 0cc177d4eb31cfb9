-- A dead Other has no line; otherwise its tokens are put, and its line ends at its address.
use Rattle.lowering.proofs.Lines.{left_out, not_out, line_put}
use Rattle.plain.proofs.Lines.{inside, other_lines}
use Rattle.plain.proofs.other.other.Goals as goal

pub returns-then-is_dead : goal.returns-then-is_dead
returns-then-is_dead c = λ E H pend set s. left_out _ _ _ _ (other_lines E _ H pend set _ _ c.requires.i_value) c.is_dead.ensures _ c.if-is_dead.true

pub put_other-out-requires : goal.put_other-out-requires
put_other-out-requires c = record { live_reads = c.requires.live_reads; i_bound = (inside _ _ _ c.requires.i_lt_end, c.requires.first_value) }

pub returns : goal.returns
returns c = λ E H pend set s. line_put _ _ _ _ _ _ _ _ _ _ (not_out _ _ _ _ (other_lines E _ H pend set _ _ c.requires.i_value) c.is_dead.ensures c.if-is_dead.false) (c.put_other-out.ensures E s) c.end_stmt.ensures
