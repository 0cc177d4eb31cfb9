-- Its values' items begin behind those of its expressions and are as many as counted; their numbers fit 32 bits as all items do.
use Rattle.plain.proofs.Searching.{items_low, sets_are}
use Rattle.defined.proofs.Values.{exprs_small, items_small}
use native.Mathlib.Omega.{arith}
use Rattle.plain.proofs.sets.sets_of.Goals as goal

pub overflow_add-from : goal.overflow_add-from
overflow_add-from c = omega (arith, exprs_small _ _ _ _ c.type_inv.f (c.requires.ground.counts, c.requires.i_bound.0, c.requires.i_bound.1) c.expr_items.ensures)

pub overflow_add-to : goal.overflow_add-to
overflow_add-to c = omega (arith, items_small _ _ _ _ c.type_inv.f (c.requires.ground.counts, c.requires.i_bound.0, c.requires.i_bound.1) c.expr_items.ensures _ c.value_items.ensures)

pub sets_from-requires : goal.sets_from-requires
sets_from-requires c = items_low _ c.type_inv.f _ c.requires.ground.where_all

pub returns : goal.returns
returns c = sets_are _ _ _ _ _ _ _ _ c.requires.ground.where_all c.requires.i_bound.1 c.expr_items.ensures c.value_items.ensures c.sets_from.ensures
