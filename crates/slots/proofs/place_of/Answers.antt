-- Register modulo 16 times 128, and the version's part modulo 128: small, so the sum is the definition's as it stands.
use Rattle.slots.proofs.Bits.{place_is}
use Rattle.slots.proofs.place_of.Goals as goal

pub returns : goal.returns
returns c = place_is _
