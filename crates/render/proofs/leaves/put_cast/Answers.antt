-- The pointer, then an opening parenthesis, are the two tokens before an address, one piece behind the other.
use Rattle.render.proofs.Written.{cast_put}
use Rattle.render.proofs.leaves.put_cast.Goals as goal

pub returns : goal.returns
returns c = cast_put _ _ _ _ c.put_pointer-out.ensures c.put.ensures
