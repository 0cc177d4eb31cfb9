-- The trees below the number of expressions are all trees, so the comparison with that bound on both sides is of the two expressions.
use Rattle.flags.proofs.Nodes.{all_tell}
use Rattle.flags.proofs.same.same_expr.Goals as goal

pub returns : goal.returns
returns c = all_tell _ _ _ _ _ _ c.size_of-n.ensures c.same_below.ensures
