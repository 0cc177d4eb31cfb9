-- The shift is by less than 32, so the bit stays inside 32 bits and is the definition's power of two.
use Rattle.slots.proofs.Bits.{mask_is}
use Rattle.slots.proofs.mask_of.Goals as goal

pub returns : goal.returns
returns c = mask_is _
