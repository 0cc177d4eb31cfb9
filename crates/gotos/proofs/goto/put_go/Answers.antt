-- The keyword, then a space: the two tokens in order.
use Rattle.room.proofs.Laws.{next, one}
use Rattle.gotos.specs.Written.{go_tokens}
use Rattle.gotos.proofs.goto.put_go.Goals as goal

pub returns : goal.returns
unfolding go_tokens
returns c = next _ _ _ _ c.put-out.ensures (one _ _ _ c.put.ensures)
