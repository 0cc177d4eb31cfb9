-- The keyword, a star, the first use if there is one, and `;`: the four pieces in order are the computed goto's.
use Rattle.gotos.proofs.Lines.{computed_put}
use Rattle.gotos.proofs.jump.put_computed.Goals as goal

pub returns : goal.returns
returns c = λ E s. computed_put E _ _ _ _ _ _ _ _ c.put-out.ensures c.put-out-2.ensures (c.put_first-out.ensures E s) c.put.ensures
