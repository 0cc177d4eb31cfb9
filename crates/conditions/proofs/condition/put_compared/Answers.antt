-- The setter and the code read give the definition's comparison: where there is one it is printed, otherwise the flags by their name.
use Rattle.conditions.proofs.Pairing.{compared_there, compared_not}
use Rattle.conditions.proofs.condition.put_compared.Goals as goal

pub returns-in_default : goal.returns-in_default
returns-in_default c = λ E e. compared_not E _ _ _ _ _ c.code_of.ensures c.shown.ensures _ _ c.in_default.is c.put_flags.ensures

pub returns : goal.returns
returns c = λ E e. compared_there E _ _ _ _ _ c.code_of.ensures c.shown.ensures _ _ _ c.in-Some.is (c.put_shown.ensures E e)
