-- A statement that is no Assign, or not this closure's, adds nothing; any other adds its expression's offset, the definition's rule.
use Rattle.rounds.proofs.Stepping.{stmt_none, assign_other, assign_ran}
use Rattle.sums.proofs.Naming.{stmt_inside}
use native.Mathlib.Omega.{arith}
use Rattle.rounds.proofs.rules.stmt_step.Goals as goal

pub returns-then-stmt_kind-ne-ASSIGN : goal.returns-then-stmt_kind-ne-ASSIGN
returns-then-stmt_kind-ne-ASSIGN c = λ E s. stmt_none _ _ _ _ E _ _ c.stmt_kind.ensures c.if-stmt_kind-ne-ASSIGN.true

pub returns-then-not-is_turn : goal.returns-then-not-is_turn
returns-then-not-is_turn c = λ E s. assign_other _ _ _ _ E _ _ _ _ c.stmt_kind.ensures c.if-stmt_kind-ne-ASSIGN.false c.stmt_field.ensures c.is_turn.ensures c.if-not-is_turn.true

pub overflow_add-of : goal.overflow_add-of
overflow_add-of c = omega (arith, stmt_inside _ _ _ c.args.of.now.ground _ c.requires.i_bound)

pub returns : goal.returns
returns c = assign_ran _ _ _ c.args.of.now.ground c.args.of.now.bytes _ c.requires.tab_len _ _ _ _ _ _ _ _ _ _ _ c.requires.i_bound c.stmt_kind.ensures c.if-stmt_kind-ne-ASSIGN.false c.stmt_field.ensures c.is_turn.ensures c.if-not-is_turn.false c.stmt_field-2.ensures c.stack_off-x.ensures c.get-v.ensures c.learn.ensures
