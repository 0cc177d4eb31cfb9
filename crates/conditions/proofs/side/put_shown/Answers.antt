-- The word for unsigned, the left side, the sign, the right side: what the four calls put is the comparison's tokens in order.
use Rattle.conditions.proofs.Sides.{shown_put}
use Rattle.conditions.proofs.side.put_shown.Goals as goal

pub put_side-requires : goal.put_side-requires
put_side-requires c = c.requires

pub returns : goal.returns
returns c = λ E e. shown_put _ _ _ _ _ _ _ _ c.put_if-out.ensures (c.put_side-out.ensures E e) c.put_sign-out.ensures (c.put_side.ensures E e)
