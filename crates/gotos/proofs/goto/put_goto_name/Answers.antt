-- The word goto with its space, the name of what is at the address and `;` one behind the other are the goto's tokens.
use Rattle.gotos.proofs.Gotos.{goto_put}
use Rattle.gotos.specs.Written.{name_of}
use Rattle.gotos.proofs.goto.put_goto_name.Goals as goal

pub returns : goal.returns
unfolding name_of
returns c = λ E s. goto_put _ _ _ _ _ c.put_go-out.ensures (c.put_target-out.ensures E s) c.put.ensures
