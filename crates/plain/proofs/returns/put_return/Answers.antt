-- The keyword, what is given back if anything, and `;`: the three pieces in order are the Return's tokens.
use Rattle.room.proofs.Laws.{next, more, one}
use Rattle.plain.specs.Pieces.{return_of}
use Rattle.plain.proofs.returns.put_return.Goals as goal

pub returns : goal.returns
unfolding return_of
returns c = λ E s. next _ _ _ _ c.put-out.ensures (more _ _ _ _ _ (c.put_result-out.ensures E s) (one _ _ _ c.put.ensures))
