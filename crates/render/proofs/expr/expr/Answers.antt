-- Below the number of expressions stand all of them, so what is printed with that bound is the expression without one.
use Rattle.render.proofs.Around.{expr_is}
use Rattle.render.proofs.Valued.{all_within}
use Rattle.render.proofs.expr.expr.Goals as goal

pub below-requires : goal.below-requires
below-requires c = all_within _ _ c.size_of-b.ensures

pub returns : goal.returns
returns c = expr_is _ _ _ _ _ _ _ _ c.size_of-b.ensures c.below.ensures
