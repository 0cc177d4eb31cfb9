-- The two pieces, one put behind the other, are the two of `do {`.
use Rattle.definition.specs.Negate.{do_tokens}
use Rattle.room.proofs.Laws.{next, done}
use Rattle.negate.proofs.heads.put_do.Goals as goal

pub returns : goal.returns
unfolding do_tokens
returns c = next _ _ _ _ c.put-out.ensures (next _ _ _ _ c.put.ensures (done _))
