use Rattle.rounds.proofs.Walking.{within, inputs_small, inputs_start, inputs_turn, inputs_end}
use Rattle.rounds.proofs.Running.{phis_parts, both_ran, mine_none, nothing_ran, all_ran}
use Rattle.rounds.specs.Defs.{phi_defs}
use Rattle.records.proofs.Items.{size_small}
use Rattle.definition.specs.Lists.{range}
use native.Mathlib.Omega.{arith}
use mathlib.Core.Path.{refl, ◌∙◌}
use Rattle.rounds.proofs.phis_round.Goals as goal

pub loop-i-init : goal.loop-i-init
unfolding phi_defs range
loop-i-init c = (omega arith, refl, inputs_start _ _ _ c.requires.n_bound.1, nothing_ran _ _ _ _ _ (mine_none _))

pub overflow_add-from : goal.overflow_add-from
overflow_add-from c = omega (arith, size_small c.args.of.now.f.now c.args.of.now.bytes 2, c.requires.n_bound.0)

pub phi_step-c-requires : goal.phi_step-c-requires
phi_step-c-requires c = record { tab_len = c.loop-i.invariant.1 ∙ c.requires.tab_len; i_bound = (within _ _ _ _ c.loop-i-test.true c.requires.n_bound.0, c.loop-i.invariant.2) }

pub overflow_add-from-in-loop-i : goal.overflow_add-from-in-loop-i
overflow_add-from-in-loop-i c = omega (arith, size_small c.args.of.now.f.now c.args.of.now.bytes 2, c.requires.n_bound.0, c.loop-i-test.true)

pub overflow_add-first : goal.overflow_add-first
overflow_add-first c = omega (arith, inputs_small _ c.args.of.now.ground.counts c.args.of.now.bytes _ _ _ (within _ _ _ _ c.loop-i-test.true c.requires.n_bound.0) c.loop-i.invariant.2 c.phi_inputs-first.ensures)

pub loop-i-preserved : goal.loop-i-preserved
loop-i-preserved c = (omega arith, c.phi_step-c.auto.tab ∙ c.loop-i.invariant.1, inputs_turn _ _ _ _ _ c.loop-i.invariant.2 c.phi_inputs-first.ensures, both_ran _ _ _ _ _ _ _ _ _ _ _ _ (phis_parts _ _ _) refl c.loop-i.invariant.3 c.phi_step-c.ensures)

pub returns : goal.returns
returns c = (inputs_end _ _ _ _ _ c.loop-i.invariant.0 c.loop-i-test.false c.loop-i.invariant.2, all_ran _ _ _ (phi_defs _ _) _ _ _ _ _ _ c.loop-i.invariant.0 c.loop-i-test.false refl c.loop-i.invariant.3)
