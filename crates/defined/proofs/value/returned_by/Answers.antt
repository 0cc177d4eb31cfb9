-- What is no Call, or a Call whose field 3 is not 1, returns nothing; else fields 4 and 5 are the value.
use Rattle.defined.proofs.Values.{calls_not, returns_none, returns_one}
use Rattle.defined.proofs.value.returned_by.Goals as goal
use Rattle.defined.proofs.value.returned_by.Goals.{then-stmt_kind-ne-CALL-via-then-stmt_kind-ne-CALL, then-stmt_kind-ne-CALL-via-else-stmt_kind-ne-CALL+then-stmt_field-ne1}

pub returns-then-stmt_kind-ne-CALL : goal.returns-then-stmt_kind-ne-CALL
returns-then-stmt_kind-ne-CALL c = elim c.then-stmt_kind-ne-CALL.branch [
  | then-stmt_kind-ne-CALL-via-then-stmt_kind-ne-CALL w ↦ calls_not _ _ _ c.stmt_kind.ensures w.if-stmt_kind-ne-CALL.true
  | then-stmt_kind-ne-CALL-via-else-stmt_kind-ne-CALL+then-stmt_field-ne1 w ↦ returns_none _ _ _ c.stmt_kind.ensures _ w.if-stmt_kind-ne-CALL.false w.stmt_field.ensures w.if-stmt_field-ne1.true
]

pub returns : goal.returns
returns c = returns_one _ _ _ c.stmt_kind.ensures _ _ _ c.if-stmt_kind-ne-CALL.false c.stmt_field.ensures c.if-stmt_field-ne1.false c.stmt_field-2.ensures c.stmt_field-3.ensures
