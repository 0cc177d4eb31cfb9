-- By the six signs: in each case the text that is put is the one that the definition gives that sign.
use Rattle.conditions.specs.Printed.{view_sign}
use Rattle.definition.specs.Condition.{sign_text}
use Rattle.conditions.proofs.Sides.{sign_put}
use Rattle.conditions.proofs.side.put_sign.Goals as goal

pub returns-in-Equal : goal.returns-in-Equal
unfolding sign_text view_sign
returns-in-Equal c = sign_put _ _ _ _ c.in-Equal.is c.put.ensures

pub returns-in-Unequal : goal.returns-in-Unequal
unfolding sign_text view_sign
returns-in-Unequal c = sign_put _ _ _ _ c.in-Unequal.is c.put-in-Unequal.ensures

pub returns-in-Under : goal.returns-in-Under
unfolding sign_text view_sign
returns-in-Under c = sign_put _ _ _ _ c.in-Under.is c.put-in-Under.ensures

pub returns-in-NotUnder : goal.returns-in-NotUnder
unfolding sign_text view_sign
returns-in-NotUnder c = sign_put _ _ _ _ c.in-NotUnder.is c.put-in-NotUnder.ensures

pub returns-in-Over : goal.returns-in-Over
unfolding sign_text view_sign
returns-in-Over c = sign_put _ _ _ _ c.in-Over.is c.put-in-Over.ensures

pub returns-in-NotOver : goal.returns-in-NotOver
unfolding sign_text view_sign
returns-in-NotOver c = sign_put _ _ _ _ c.in-NotOver.is c.put-in-NotOver.ensures
