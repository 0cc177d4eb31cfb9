use native.Mathlib.Omega.{arith}
use mathlib.Core.Path.{◌≡◌, refl, ◌∙◌}
use Rattle.definition.specs.Owners.{first_input}
use Rattle.naming.specs.Walk.{walked, phi_spots}
use Rattle.definition.proofs.Runs.{lists_turn, lists_end}
use Rattle.naming.proofs.Small.{input_next, inputs_fit}
use Rattle.naming.proofs.Standing.{stands_all, stands_made}
use mathlib.Core.Path.{ap}
use Rattle.naming.proofs.phis.name_phis.Goals as goal

pub loop-i-init : goal.loop-i-init
loop-i-init c = (refl, (stands_all _ _ _ _ _ c.requires.2).2, c.requires.0, refl, refl)

pub name_phi-next-requires : goal.name_phi-next-requires
name_phi-next-requires c = let inv = c.loop-i.invariant in (inv.1, omega (arith, inv.1, inputs_fit c.args.of.now.f.now c.args.of.now.laid.own c.args.of.now.bytes c.loop-i.i (omega (arith, c.loop-i-test.true, c.requires.1))))

pub overflow_add-input : goal.overflow_add-input
overflow_add-input c = let inv = c.loop-i.invariant in omega (arith, inv.1, c.phi_inputs-input.ensures, inputs_fit c.args.of.now.f.now c.args.of.now.laid.own c.args.of.now.bytes c.loop-i.i (omega (arith, c.loop-i-test.true, c.requires.1)))

pub loop-i-preserved : goal.loop-i-preserved
unfolding walked
loop-i-preserved c = let inv = c.loop-i.invariant in (inv.0 ∙ lists_turn (walked _) _ (λ S. refl) (λ S x xs. refl) (phi_spots c.args.of.now.f.now) _ _ _ _ c.loop-i-test.true c.name_phi-next.ensures, omega (arith, inv.1, c.phi_inputs-input.ensures, input_next c.args.of.now.f.now c.args.of.now.laid.own c.loop-i.i), omega (arith, c.loop-i-test.true), c.name_phi-next.auto.names ∙ inv.3, c.name_phi-next.auto.seen ∙ inv.4)

pub returns : goal.returns
unfolding walked
returns c = let inv = c.loop-i.invariant in let e : c.loop-i.i ≡ c.args.b = omega (arith, inv.2, c.loop-i-test.false) in record { says = lists_end (walked _) _ (λ S. refl) (λ S x xs. refl) (phi_spots c.args.of.now.f.now) _ _ _ _ c.loop-i-test.false inv.0; stands = stands_made _ _ _ _ _ _ (inv.1 ∙ ap (first_input c.args.of.now.f.now) e) (stands_all _ _ _ _ _ c.requires.2).3 }
