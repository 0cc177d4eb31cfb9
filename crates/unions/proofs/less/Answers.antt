-- The keys at the two numbers are read, and their order is what the definition tests.
use Rattle.unions.proofs.Orders.{less_is}
use Rattle.unions.proofs.less.Goals as goal

pub returns : goal.returns
returns c = less_is _ _ _ _ _ c.get.ensures c.get-2.ensures
