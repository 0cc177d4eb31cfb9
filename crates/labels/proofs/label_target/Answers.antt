-- A statement that is no branch, or a branch without a target, has no address to mark; a branch with one marks it.
use Rattle.labels.proofs.Labelling.{target_other, target_none, target_there}
use Rattle.labels.proofs.label_target.Goals as goal

pub returns-then-stmt_kind-ne-BRANCH : goal.returns-then-stmt_kind-ne-BRANCH
returns-then-stmt_kind-ne-BRANCH c = target_other _ _ _ _ c.stmt_kind.ensures c.if-stmt_kind-ne-BRANCH.true

pub returns-then-stmt_field-ne1 : goal.returns-then-stmt_field-ne1
returns-then-stmt_field-ne1 c = target_none _ _ _ _ c.stmt_kind.ensures _ c.if-stmt_kind-ne-BRANCH.false c.stmt_field.ensures c.if-stmt_field-ne1.true

pub returns : goal.returns
returns c = target_there _ _ _ _ c.stmt_kind.ensures _ _ _ c.if-stmt_kind-ne-BRANCH.false c.stmt_field.ensures c.if-stmt_field-ne1.false c.stmt_long.ensures c.label_at.ensures
