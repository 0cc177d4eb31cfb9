-- With a register below 16 the key is at most 2^36, so that nothing overflows, and it is the definition's formula as it stands.
use Rattle.places.proofs.Reading.{key_is}
use Rattle.places.proofs.key.value_key.Goals as goal

pub returns : goal.returns
returns c = key_is _ _
