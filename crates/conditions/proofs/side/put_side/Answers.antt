-- By the five sides: an operand as it is, the difference and the conjunction in brackets around their sign, nought as the token 0.
use Rattle.definition.specs.Condition.{side_tokens}
use Rattle.flags.specs.declared.comparison.Side.TheVariants.{Left, Right, Difference, Both}
use Rattle.conditions.specs.Printed.{view_side, between}
use Rattle.conditions.proofs.Sides.{side_put, nought_put}
use Rattle.conditions.proofs.side.put_side.Goals as goal

pub returns-in-Left : goal.returns-in-Left
unfolding side_tokens view_side
returns-in-Left c = λ E e. side_put _ _ _ _ _ Left c.in-Left.is (c.put_operand.ensures E e)

pub returns-in-Right : goal.returns-in-Right
unfolding side_tokens view_side
returns-in-Right c = λ E e. side_put _ _ _ _ _ Right c.in-Right.is (c.put_operand-in-Right.ensures E e)

pub returns-in-Difference : goal.returns-in-Difference
unfolding side_tokens view_side between
returns-in-Difference c = λ E e. side_put _ _ _ _ _ Difference c.in-Difference.is (c.put_between.ensures E e)

pub returns-in-Both : goal.returns-in-Both
unfolding side_tokens view_side between
returns-in-Both c = λ E e. side_put _ _ _ _ _ Both c.in-Both.is (c.put_between-in-Both.ensures E e)

pub returns-in-Nought : goal.returns-in-Nought
returns-in-Nought c = λ E e. nought_put _ _ _ _ _ c.in-Nought.is c.put.ensures
