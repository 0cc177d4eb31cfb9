-- The ampersand, then the slot, are the two tokens of a stack address, one piece behind the other.
use Rattle.render.proofs.Written.{address_put}
use Rattle.render.proofs.leaves.put_address.Goals as goal

pub returns : goal.returns
returns c = address_put _ _ _ _ c.put-out.ensures c.put_slot.ensures
