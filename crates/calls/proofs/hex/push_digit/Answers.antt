-- A byte that is no digit gives no number; a digit is below 16, so it fits behind a number exactly if sixteen times that does.
use mathlib.Core.Path.{◌∙◌}
use Rattle.calls.proofs.Digits.{push_no, push_over, push_small, push_fits}
use native.Mathlib.Omega.{arith}
use Rattle.calls.proofs.hex.push_digit.Goals as goal

pub returns-in_err-d : goal.returns-in_err-d
returns-in_err-d c = c.from_residual.ensures ∙ push_no _ _ _ c.digit_value.ensures c.in_err-d.was

pub returns-in_err-front : goal.returns-in_err-front
returns-in_err-front c = c.from_residual-in_err-front.ensures ∙ push_over _ _ _ c.digit_value.ensures _ c.in_ok-d.was c.in_err-front.ensures

pub overflow_add-result : goal.overflow_add-result
overflow_add-result c = let a = c.args in omega (arith, push_small a.v a.b _ c.digit_value.ensures _ c.in_ok-d.was, c.in_ok-front.ensures.0, c.in_ok-front.ensures.1)

pub returns : goal.returns
returns c = push_fits _ _ _ c.digit_value.ensures _ c.in_ok-d.was _ c.in_ok-front.ensures
