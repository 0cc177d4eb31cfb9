-- The name, a bracket, the items with commas and a bracket; the items' trees are the uses, so these are the pieces asked for.
use Rattle.gotos.proofs.Leaving.{named_put}
use Rattle.gotos.specs.Written.{name_of}
use Rattle.gotos.proofs.named.put_named.Goals as goal

pub returns : goal.returns
unfolding name_of
returns c = λ E s. named_put E _ _ _ _ _ _ _ _ _ (c.put_target-out.ensures E s) c.put-out.ensures (c.put_items-out.ensures E s) c.put.ensures
