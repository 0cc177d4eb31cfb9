-- An argument's register is one of the sixteen, and what it names is version 0 of it.
use Rattle.places.proofs.Reading.{arg_is}
use Rattle.places.proofs.Registers.{arg_small}
use native.Mathlib.Omega.{arith}
use Rattle.places.proofs.key.arg_key.Goals as goal

pub value_key-requires : goal.value_key-requires
value_key-requires c = omega (arith, arg_small _ c.requires.f_value _ c.requires.i_bound)

pub returns : goal.returns
returns c = arg_is _ _ _ _ c.value_key.ensures c.arg_at.ensures
