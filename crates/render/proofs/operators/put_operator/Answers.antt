-- A space, the text without its trailing s and a space are pieces of Punct, which join, and so are the one token of the operator.
use Rattle.render.proofs.Written.{operator_put}
use Rattle.render.proofs.operators.put_operator.Goals as goal

pub returns : goal.returns
returns c = operator_put _ _ _ _ _ _ _ _ _ c.offset_of.ensures c.trimmed-n.ensures c.put-out.ensures c.put_part-out.ensures c.put.ensures
