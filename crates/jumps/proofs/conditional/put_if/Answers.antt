-- The keyword and a bracket, then what is tested: the room after each call is the one before it with that piece.
use Rattle.jumps.proofs.Testing.{if_put}
use Rattle.jumps.proofs.conditional.put_if.Goals as goal

pub returns : goal.returns
returns c = λ E s. if_put E _ _ _ _ _ _ _ c.put-out.ensures c.put-out-2.ensures (c.put_tested.ensures E s)
