-- An expression of the file has the offset that its records give, as its tree does; past the last one there is no tree and no offset.
use Rattle.sums.proofs.Naming.{under, over, expr_inside, off_in}
use Rattle.sums.proofs.Trees.{off_past}
use Rattle.sums.proofs.address.stack_off.Goals as goal

pub address_at-requires : goal.address_at-requires
address_at-requires c = expr_inside _ _ _ c.args.of.now.ground _ (under c.if-n-size_of.true c.size_of.ensures)

pub returns-then-n-size_of : goal.returns-then-n-size_of
returns-then-n-size_of c = off_in _ _ _ c.args.of.now.ground c.args.of.now.bytes _ _ _ _ (under c.if-n-size_of.true c.size_of.ensures) c.address_at.ensures

pub returns : goal.returns
returns c = λ E k s e. off_past E _ k _ (over c.if-n-size_of.false c.size_of.ensures)
