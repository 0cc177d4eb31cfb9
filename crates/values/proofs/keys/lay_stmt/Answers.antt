use native.Mathlib.Omega.{arith}
use mathlib.Core.Path.{refl, ◌∙◌}
use Rattle.values.proofs.Laying.{stmt_start, lay_turn, lay_end}
use Rattle.values.proofs.keys.lay_stmt.Goals as goal

pub loop-j-init : goal.loop-j-init
loop-j-init c = (stmt_start _ _ _ _ _ c.items_of-n.ensures, c.items_of-n.ensures, refl)

pub item_key-requires : goal.item_key-requires
item_key-requires c = record { f_value = c.requires.f_value; i_bound = (c.requires.i_bound.0, omega arith); first_value = (c.requires.i_bound.1, omega arith) }

pub loop-j-preserved : goal.loop-j-preserved
loop-j-preserved c = let inv = c.loop-j.invariant in
    (inv.0 ∙ lay_turn _ _ 0 _ _ _ _ _ _ c.loop-j-test.true (omega arith) c.item_key.ensures c.put.ensures, inv.1, c.put.auto.l ∙ inv.2)

pub returns : goal.returns
returns c = lay_end _ _ 0 _ _ _ _ c.loop-j-test.false c.loop-j.invariant.0
