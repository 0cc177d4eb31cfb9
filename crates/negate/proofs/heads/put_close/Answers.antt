-- One piece is put, and `}` is all that the line has.
use Rattle.definition.specs.Negate.{close_tokens}
use Rattle.room.proofs.Laws.{next, done}
use Rattle.negate.proofs.heads.put_close.Goals as goal

pub returns : goal.returns
unfolding close_tokens
returns c = next _ _ _ _ c.put.ensures (done _)
