-- Nothing takes no slot; one value takes its own, as a list of one does.
use Rattle.slots.proofs.Taking.{take_none, take_given}
use Rattle.slots.proofs.take_defined.Goals as goal

pub returns-in-None : goal.returns-in-None
returns-in-None c = take_none _ c.args.d (cc)

pub returns-in-Some : goal.returns-in-Some
returns-in-Some c = take_given _ c.args.d c.in-Some.v _ (cc) c.take.ensures
