-- The items of i are its expressions and its values, and the next begin behind them; all items are owned, so the sums fit.
use native.Mathlib.Omega.{arith}
use Rattle.defined.proofs.Values.{item_turn, exprs_small, items_small}
use Rattle.defined.proofs.value.next_item.Goals as goal

pub overflow_add-result : goal.overflow_add-result
overflow_add-result c = omega (arith, exprs_small _ _ _ _ c.type_inv.f c.requires c.expr_items.ensures)

pub overflow_add-result-2 : goal.overflow_add-result-2
overflow_add-result-2 c = omega (arith, items_small _ _ _ _ c.type_inv.f c.requires c.expr_items.ensures _ c.value_items.ensures)

pub returns : goal.returns
returns c = item_turn _ _ _ _ _ c.requires.2 c.expr_items.ensures c.value_items.ensures
