-- The numeral to base 16 with letters from A on is the definition's hex_upper.
use Rattle.digits.proofs.Texts.{numeral_is}
use Rattle.leaf.proofs.Leaves.{leaf_as}
use Rattle.digits.proofs.hex_upper.Goals as goal

pub returns : goal.returns
returns c = leaf_as c.digits.ensures (numeral_is _ _)
