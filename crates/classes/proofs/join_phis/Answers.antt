use native.Mathlib.Omega.{arith}
use mathlib.Core.Path.{refl, sym, subst, ◌∙◌}
use Rattle.classes.specs.Given.{Given}
use Rattle.classes.proofs.Turns.{phis_start, phis_turn, phis_end, stand_start, stand_turn, phi_fits, inputs_fit}
use Rattle.classes.proofs.join_phis.Goals as goal

pub loop-i-init : goal.loop-i-init
loop-i-init c = (phis_start _ _ _ _ _ c.size_of-n.ensures _, omega arith, refl, c.requires, stand_start _ _ c.places_of-at.ensures)

pub join_phi-requires : goal.join_phi-requires
join_phi-requires c = let here = c.size_of-n.ensures in
    (c.loop-i.invariant.3, omega (arith, here), c.loop-i.invariant.4)

pub overflow_add-p : goal.overflow_add-p
overflow_add-p c = omega (arith, phi_fits _ _ _ _ c.loop-i.invariant.3 _ _ _ _ c.size_of-n.ensures c.loop-i-test.true c.loop-i.invariant.4)

pub overflow_add-k : goal.overflow_add-k
overflow_add-k c = omega (arith, inputs_fit _ _ _ _ c.loop-i.invariant.3 _ _ _ _ c.size_of-n.ensures c.loop-i-test.true c.loop-i.invariant.4 _ c.phi_inputs.ensures)

pub loop-i-preserved : goal.loop-i-preserved
loop-i-preserved c = let inv = c.loop-i.invariant in (
  inv.0 ∙ phis_turn _ _ _ _ _ c.size_of-n.ensures _ _ _ c.loop-i-test.true c.join_phi.ensures,
  omega arith,
  c.join_phi.auto.roots ∙ inv.2,
  subst (Given _ _ _) (sym c.join_phi.auto.roots) inv.3,
  stand_turn _ _ _ _ _ inv.4 c.phi_inputs.ensures,
)

pub returns : goal.returns
returns c = sym (c.loop-i.invariant.0 ∙ phis_end _ _ _ _ _ c.size_of-n.ensures _ _ c.loop-i-test.false)
