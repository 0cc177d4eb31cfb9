-- The word goto with its space, the block's label and `;` one behind the other are the goto's tokens.
use Rattle.gotos.proofs.Gotos.{goto_put}
use Rattle.gotos.proofs.goto.put_goto.Goals as goal

pub returns : goal.returns
returns c = goto_put _ _ _ _ _ c.put_go-out.ensures c.put_label-out.ensures c.put.ensures
