-- The sign before, the expression and the sign behind, put in this order, are the pieces asked for.
use Rattle.room.proofs.Laws.{next, more, one}
use Rattle.lowering.specs.Lowered.{within_of}
use Rattle.lowering.proofs.list.put_within.Goals as goal

pub returns : goal.returns
unfolding within_of
returns c = λ E s. next _ _ _ _ c.put-out.ensures (more _ _ _ _ _ (c.put_expr-out.ensures E s) (one _ _ _ c.put.ensures))
