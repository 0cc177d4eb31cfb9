-- What is no TEST is a CMP; a TEST is one of an operand and itself exactly if the two trees are equal.
use borrow.Author.Tests.{not-true, not-false}
use Rattle.flags.proofs.Settings.{is_cmp, is_same, is_test_lem}
use Rattle.flags.proofs.setter.compared.Goals as goal

pub returns-then-not-c : goal.returns-then-not-c
returns-then-not-c c = is_cmp _ _ c.args.c (not-true _ c.if-not-c.true)

pub returns-then-same_expr : goal.returns-then-same_expr
returns-then-same_expr c = is_same _ _ c.args.c (not-false _ c.if-not-c.false) _ c.same_expr.ensures c.if-same_expr.true

pub returns-else-same_expr : goal.returns-else-same_expr
returns-else-same_expr c = is_test_lem _ _ c.args.c (not-false _ c.if-not-c.false) _ c.same_expr.ensures c.if-same_expr.false
