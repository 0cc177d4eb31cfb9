-- Behind the file's end the part is empty, and with fewer than n bytes left it is all of them.
use Rattle.leaf.proofs.Leaves.{leaf_as}
use Rattle.leaf.proofs.Copies.{part_is}
use Rattle.leaf.proofs.copy_part.Goals as goal

pub returns : goal.returns
returns c = leaf_as c.copy.ensures (part_is _ _ _ _ _ c.min.ensures c.min-2.ensures)
