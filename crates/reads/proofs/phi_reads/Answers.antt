use Rattle.reads.proofs.Phis.{phi_done}
use Rattle.reads.proofs.Visits.{place_is, inputs_low, row_turn, row_end}
use mathlib.Core.Path.{refl, ap, ◌∙◌}
use Rattle.places.specs.declared.Places.{Places}
use native.Mathlib.Omega.{arith}
use Rattle.reads.proofs.phi_reads.Goals as goal

pub loop-k-init : goal.loop-k-init
loop-k-init c = (refl, c.size_of-n.ensures, ap (λ (p : Places). p.inputs) c.places_of-p.ensures, refl)

pub overflow_add-base : goal.overflow_add-base
overflow_add-base c = omega (arith, inputs_low _ c.type_inv.f _ c.loop-k.invariant.2)

pub loop-k-preserved : goal.loop-k-preserved
loop-k-preserved c = let inv = c.loop-k.invariant in (inv.0 ∙ row_turn _ _ _ _ _ _ _ _ c.loop-k-test.true c.get.ensures (place_is _ _ _ _ c.put.ensures), inv.1, inv.2, c.put.auto.l ∙ inv.3)

pub returns : goal.returns
returns c = λ E. let inv = c.loop-k.invariant in row_end _ _ _ _ _ _ _ c.loop-k-test.false inv.0 ∙ phi_done _ _ _ _ _ c.requires c.type_inv.f inv.2 inv.1 E
