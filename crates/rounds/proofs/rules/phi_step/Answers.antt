-- A phi that is not this closure's adds nothing; any other adds at its number what its inputs agree on, the definition's rule.
use Rattle.rounds.proofs.Stepping.{phi_other, phi_ran}
use Rattle.rounds.proofs.Agreeing.{phi_inside, inputs_inside}
use native.Mathlib.Omega.{arith}
use Rattle.rounds.proofs.rules.phi_step.Goals as goal

pub returns-then-not-is_turn : goal.returns-then-not-is_turn
returns-then-not-is_turn c = phi_other _ _ _ _ _ _ _ c.phi_word.ensures c.is_turn.ensures c.if-not-is_turn.true

pub overflow_add-of : goal.overflow_add-of
overflow_add-of c = omega (arith, inputs_inside _ _ _ c.args.of.now.ground _ c.requires.i_bound.0, c.requires.i_bound.1)

pub agreed-x-requires : goal.agreed-x-requires
agreed-x-requires c = omega (arith, inputs_inside _ _ _ c.args.of.now.ground _ c.requires.i_bound.0, c.requires.i_bound.1, c.phi_inputs.ensures)

pub overflow_add-of-2 : goal.overflow_add-of-2
overflow_add-of-2 c = omega (arith, phi_inside _ _ _ c.args.of.now.ground _ c.requires.i_bound.0)

pub returns : goal.returns
returns c = phi_ran _ _ _ c.args.of.now.ground c.args.of.now.bytes _ c.requires.tab_len _ _ _ _ _ _ _ _ _ _ c.requires.i_bound.0 c.requires.i_bound.1 c.phi_word.ensures c.is_turn.ensures c.if-not-is_turn.false c.phi_inputs.ensures c.agreed-x.ensures c.get-v.ensures c.learn.ensures
