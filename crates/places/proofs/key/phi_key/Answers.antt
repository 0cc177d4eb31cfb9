-- Word 0 of the phi is its register, one of the sixteen, and word 1 its version; the key is made of the two.
use Rattle.places.proofs.Reading.{phi_is}
use Rattle.places.proofs.Registers.{phi_small}
use native.Mathlib.Omega.{arith}
use Rattle.places.proofs.key.phi_key.Goals as goal

pub value_key-requires : goal.value_key-requires
value_key-requires c = omega (arith, phi_small _ c.requires.f_value _ c.requires.i_bound)

pub returns : goal.returns
returns c = phi_is _ _ _ _ _ c.value_key.ensures c.phi_word.ensures c.phi_word-2.ensures
