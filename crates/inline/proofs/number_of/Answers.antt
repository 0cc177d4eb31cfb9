-- Statement i's place is i behind the first place of the statements, and the number that stands there is its value's; the sum fits.
use native.Mathlib.Omega.{arith}
use Rattle.inline.proofs.Returns.{places_small, number_is}
use Rattle.inline.proofs.number_of.Goals as goal

pub overflow_add-p : goal.overflow_add-p
overflow_add-p c = omega (arith, places_small _ _ c.type_inv.f c.places_of-p.ensures)

pub returns : goal.returns
returns c = number_is _ _ _ _ _ c.places_of-p.ensures c.get.ensures
