-- An input is a version of its phi's register, which is one of the sixteen; the key is made of the two.
use Rattle.places.proofs.Reading.{input_is}
use Rattle.places.proofs.Registers.{phi_small}
use native.Mathlib.Omega.{arith}
use Rattle.places.proofs.key.input_key.Goals as goal

pub value_key-requires : goal.value_key-requires
value_key-requires c = omega (arith, phi_small _ c.requires.f_value _ c.requires.i_bound)

pub returns : goal.returns
returns c = input_is _ _ _ _ _ c.value_key.ensures _ c.phi_word.ensures c.input_at.ensures
