-- What set the flags is nothing, two expressions, or a result; that one some statement of the block assigns, and the one found is alike.
use mathlib.Core.Path.{ap, ◌∙◌}
use Rattle.std.proofs.Common.{rules, Some}
use Rattle.conditions.proofs.Pairing.{found_nothing, found_operands, found_result}
use Rattle.conditions.proofs.Assigning.{one_assigns}
use Rattle.conditions.proofs.operands.operands.Goals as goal

pub returns-in_err-o : goal.returns-in_err-o
returns-in_err-o c = found_nothing _ _ _ _ _ c.setter.ensures _ (search rules) c.in_err-o.was

pub assigning-k-requires-clause-count_value : goal.assigning-k-requires-clause-count_value
assigning-k-requires-clause-count_value c = one_assigns _ _ _ _ _ _ (c.in_ok-o.was ∙ ap Some c.in-Result.is) c.setter.ensures

pub returns-in-Operands : goal.returns-in-Operands
returns-in-Operands c = found_operands _ _ _ _ _ c.setter.ensures _ (c.in_ok-o.was ∙ ap Some c.in-Operands.is)

pub returns-in-Result : goal.returns-in-Result
returns-in-Result c = found_result _ _ _ _ _ c.setter.ensures _ _ (c.in_ok-o.was ∙ ap Some c.in-Result.is) c.assigning-k.ensures
