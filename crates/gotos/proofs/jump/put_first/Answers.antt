-- Without a use nothing is put; otherwise the first item's expression.
use Rattle.gotos.proofs.Using.{first_none, first_put}
use Rattle.gotos.proofs.jump.put_first.Goals as goal

pub returns-then-n-eq0 : goal.returns-then-n-eq0
returns-then-n-eq0 c = λ E s. first_none E _ _ _ _ c.if-n-eq0.true

pub returns : goal.returns
returns c = λ E s. first_put E _ _ _ _ _ _ c.if-n-eq0.false c.item_word-x.ensures (c.put_expr.ensures E s)
