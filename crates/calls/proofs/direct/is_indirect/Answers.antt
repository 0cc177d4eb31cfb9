-- The spelling stands at its section's offset and its own start, so that part of the file beginning with a bracket is the test.
use Rattle.calls.proofs.Naming.{indirect_is}
use Rattle.calls.proofs.direct.is_indirect.Goals as goal

pub returns : goal.returns
returns c = λ E s. indirect_is E _ _ _ _ _ s c.offset_of.ensures _ c.begins_part.ensures
