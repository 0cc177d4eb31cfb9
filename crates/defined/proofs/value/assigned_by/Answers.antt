-- Only an Assign assigns, and its value is fields 0 and 1; any other kind gives nothing.
use Rattle.defined.proofs.Values.{assigns, assigns_not}
use Rattle.defined.proofs.value.assigned_by.Goals as goal

pub returns-then-stmt_kind-ne-ASSIGN : goal.returns-then-stmt_kind-ne-ASSIGN
returns-then-stmt_kind-ne-ASSIGN c = assigns_not _ _ _ c.stmt_kind.ensures c.if-stmt_kind-ne-ASSIGN.true

pub returns : goal.returns
returns c = assigns _ _ _ c.stmt_kind.ensures _ _ c.if-stmt_kind-ne-ASSIGN.false c.stmt_field.ensures c.stmt_field-2.ensures
