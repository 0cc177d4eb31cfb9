-- Bracket, left operand, sign, right operand, bracket: the five pieces one behind the other are the list asked for.
use Rattle.conditions.proofs.Sides.{between_put}
use Rattle.conditions.proofs.side.put_between.Goals as goal

pub put_operand-out-requires-2 : goal.put_operand-out-requires-2
put_operand-out-requires-2 c = c.requires.right

pub returns : goal.returns
returns c = λ E e. between_put _ _ _ _ _ _ _ _ _ c.put-out.ensures (c.put_operand-out.ensures E e) c.put-out-2.ensures (c.put_operand-out-2.ensures E e) c.put.ensures
