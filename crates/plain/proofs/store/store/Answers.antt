-- Dead or silent, by the definition's two tests in turn, it has no line; otherwise its tokens are put and end at its address.
use Rattle.lowering.proofs.Lines.{left_out, not_out, line_put}
use Rattle.plain.proofs.Lines.{store_lines}
use Rattle.plain.proofs.store.store.Goals as goal

pub returns-then-is_dead : goal.returns-then-is_dead
returns-then-is_dead c = λ E H pend set s. left_out _ _ _ _ (store_lines E _ H pend set _ _ c.requires.i_value) c.is_dead.ensures _ c.if-is_dead.true

pub returns-then-is_silent : goal.returns-then-is_silent
returns-then-is_silent c = λ E H pend set s. left_out _ _ _ _ (not_out _ _ _ _ (store_lines E _ H pend set _ _ c.requires.i_value) c.is_dead.ensures c.if-is_dead.false) (c.is_silent.ensures E _ s (c.args.src.now.told.known E s)) _ c.if-is_silent.true

pub returns : goal.returns
returns c = λ E H pend set s. line_put _ _ _ _ _ _ _ _ _ _ (not_out _ _ _ _ (not_out _ _ _ _ (store_lines E _ H pend set _ _ c.requires.i_value) c.is_dead.ensures c.if-is_dead.false) (c.is_silent.ensures E _ s (c.args.src.now.told.known E s)) c.if-is_silent.false) (c.put_store-out.ensures E s) c.end_stmt.ensures
