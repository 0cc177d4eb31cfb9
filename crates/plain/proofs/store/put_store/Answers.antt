-- The pieces of where it stores, and behind them ` = E;` with the expression of its third field, are the Store's.
use Rattle.plain.proofs.Writing.{store_put}
use Rattle.plain.proofs.store.put_store.Goals as goal

pub returns : goal.returns
returns c = λ E s. store_put E _ _ _ _ _ _ c.stmt_field-n.ensures (c.put_place-out.ensures E s) (c.put_within.ensures E s)
