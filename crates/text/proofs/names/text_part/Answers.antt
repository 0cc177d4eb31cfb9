-- The section's offset and the start, added up, are the place in the file where the part begins.
use native.Mathlib.Omega.{arith}
use Rattle.text.proofs.Lookups.{part_at}
use Rattle.leaf.proofs.Leaves.{leaf_as}
use Rattle.text.proofs.names.text_part.Goals as goal

pub returns : goal.returns
returns c = leaf_as c.copy_part.ensures (part_at _ _ _ _ (omega (arith, c.offset_of.ensures)))
