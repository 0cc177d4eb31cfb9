-- A name that begins with a star is a raw address and gets a goto; any other is called as a tail call.
use Rattle.gotos.proofs.Leaving.{leave_raw, leave_call}
use Rattle.gotos.specs.Written.{name_of}
use Rattle.gotos.proofs.tail.leave.Goals as goal

pub returns-then-leaves_raw : goal.returns-then-leaves_raw
unfolding name_of
returns-then-leaves_raw c = λ E s. leave_raw E _ _ _ _ _ _ _ (c.leaves_raw.ensures E s) c.if-leaves_raw.true (c.name_line.ensures E s)

pub returns : goal.returns
unfolding name_of
returns c = λ E s. leave_call E _ _ _ _ _ _ _ (c.leaves_raw.ensures E s) c.if-leaves_raw.false (c.tail_call.ensures E s)
