use native.Mathlib.Omega.{arith}
use mathlib.Core.Path.{refl, sym, ◌∙◌}
use Rattle.definition.specs.Owners.{first_input}
use Rattle.values.proofs.Laying.{runs_start, runs_turn, runs_end, inputs_fit}
use Rattle.records.proofs.Below.{sum_start, sum_turn}
use Rattle.values.proofs.Placed.{inputs_length}
use Rattle.values.proofs.keys.lay_inputs.Goals as goal

pub loop-i-init : goal.loop-i-init
unfolding first_input
loop-i-init c = (runs_start _ _ _ _ _ c.size_of-n.ensures, sum_start _, c.size_of-n.ensures, refl)

pub overflow_cast-first : goal.overflow_cast-first
overflow_cast-first c = let inv = c.loop-i.invariant in omega (arith, inputs_fit _ _ c.requires.phis_bound inv.2 c.loop-i-test.true inv.1)

pub overflow_add-from : goal.overflow_add-from
overflow_add-from c = let inv = c.loop-i.invariant in omega (arith, inputs_fit _ _ c.requires.phis_bound inv.2 c.loop-i-test.true inv.1)

pub lay_phi-requires : goal.lay_phi-requires
lay_phi-requires c = let inv = c.loop-i.invariant in
    let fit = inputs_fit _ _ c.requires.phis_bound inv.2 c.loop-i-test.true inv.1 in
    record { f_value = c.requires.f_value; i_bound = (omega arith, inv.1, fit); from_bound = omega arith }

pub overflow_add-first : goal.overflow_add-first
overflow_add-first c = let inv = c.loop-i.invariant in omega (arith, c.phi_inputs-first.ensures, inputs_fit _ _ c.requires.phis_bound inv.2 c.loop-i-test.true inv.1)

pub loop-i-preserved : goal.loop-i-preserved
unfolding first_input
loop-i-preserved c = let inv = c.loop-i.invariant in
    (inv.0 ∙ runs_turn _ _ _ _ _ _ _ _ _ c.loop-i-test.true c.lay_phi.ensures (c.phi_inputs-first.ensures ∙ sym (inputs_length _ _)) refl, sum_turn _ inv.1 c.phi_inputs-first.ensures, inv.2, c.lay_phi.auto.keys ∙ inv.3)

pub returns : goal.returns
returns c = runs_end _ _ _ _ _ _ _ c.loop-i-test.false c.loop-i.invariant.0
