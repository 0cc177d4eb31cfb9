-- No result, nothing put; otherwise the tables at its value's number say whether it is read, and the code of its name.
use Rattle.calling.proofs.Setting.{result_none, result_unread, result_read}
use Rattle.sums.proofs.Naming.{stmt_inside}
use native.Mathlib.Omega.{arith}
use Rattle.calling.proofs.result.put_result.Goals as goal

pub returns-then-stmt_field-ne1 : goal.returns-then-stmt_field-ne1
returns-then-stmt_field-ne1 c = λ E. result_none _ _ _ _ _ _ c.requires.results c.type_inv.f _ c.requires.i_value E _ _ c.stmt_field.ensures c.if-stmt_field-ne1.true

pub overflow_add-places : goal.overflow_add-places
overflow_add-places c = omega (arith, stmt_inside _ _ _ c.requires.results.ground _ c.requires.i_value.1)

pub returns-then-is_read : goal.returns-then-is_read
returns-then-is_read c = λ E. result_read _ _ _ _ _ _ c.requires.results c.type_inv.f _ c.requires.i_value _ c.stmt_field.ensures c.if-stmt_field-ne1.false _ c.get-m.ensures _ c.is_read.ensures E _ _ _ _ _ c.if-is_read.true c.bits_of.ensures c.stmt_field-reg.ensures c.get.ensures c.put_setting.ensures

pub returns : goal.returns
returns c = λ E. result_unread _ _ _ _ _ _ c.requires.results c.type_inv.f _ c.requires.i_value _ c.stmt_field.ensures c.if-stmt_field-ne1.false _ c.get-m.ensures _ c.is_read.ensures E _ c.if-is_read.false
