-- An Assign has the key of what it defines, a Call that returns that of its result, both of the sixteen registers; all else has 0.
use Rattle.places.proofs.Reading.{assign_is, call_is, stmt_none, call_none}
use Rattle.places.proofs.Registers.{assign_small, return_small}
use native.Mathlib.Omega.{arith}
use mathlib.Core.Path.{sym, ◌∙◌}
use Rattle.places.proofs.key.stmt_key.Goals as goal

pub value_key-requires : goal.value_key-requires
value_key-requires c = omega (arith, assign_small _ c.requires.f_value _ c.requires.i_bound (sym c.stmt_kind-k.ensures ∙ c.if-k-eq-ASSIGN.true))

pub returns-then-k-eq-ASSIGN : goal.returns-then-k-eq-ASSIGN
returns-then-k-eq-ASSIGN c = assign_is _ _ _ _ _ c.value_key.ensures _ c.stmt_kind-k.ensures c.if-k-eq-ASSIGN.true c.stmt_field.ensures c.stmt_field-then-k-eq-ASSIGN.ensures

pub returns-then-k-ne-CALL : goal.returns-then-k-ne-CALL
returns-then-k-ne-CALL c = stmt_none _ _ _ c.stmt_kind-k.ensures c.if-k-eq-ASSIGN.false c.if-k-ne-CALL.true

pub returns-then-stmt_field-ne1 : goal.returns-then-stmt_field-ne1
returns-then-stmt_field-ne1 c = call_none _ _ _ c.stmt_kind-k.ensures _ c.if-k-ne-CALL.false c.stmt_field-2.ensures c.if-stmt_field-ne1.true

pub value_key-requires-2 : goal.value_key-requires-2
value_key-requires-2 c = omega (arith, return_small _ c.requires.f_value _ c.requires.i_bound (sym c.stmt_kind-k.ensures ∙ c.if-k-ne-CALL.false) (sym c.stmt_field-2.ensures ∙ c.if-stmt_field-ne1.false))

pub returns : goal.returns
returns c = call_is _ _ _ _ _ c.value_key-2.ensures _ _ c.stmt_kind-k.ensures c.if-k-ne-CALL.false c.stmt_field-2.ensures c.if-stmt_field-ne1.false c.stmt_field-3.ensures c.stmt_field-4.ensures
