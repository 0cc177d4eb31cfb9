-- The place has a value's number, and at that number the table says what is known of it.
use Rattle.sums.proofs.Nodes.{value_is}
use Rattle.sums.proofs.reading.value_at.Goals as goal

pub returns : goal.returns
returns c = value_is _ _ _ _ _ _ c.get-v.ensures c.get.ensures
