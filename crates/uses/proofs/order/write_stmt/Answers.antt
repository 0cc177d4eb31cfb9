use Rattle.uses.proofs.Orders.{stmt_start, stmt_turn, stmt_end}
use mathlib.Core.Path.{refl, ◌∙◌}
use native.Mathlib.Omega.{arith}
use Rattle.uses.proofs.order.write_stmt.Goals as goal

pub loop-j-init : goal.loop-j-init
loop-j-init c = (stmt_start _ _ _ _ _ c.requires.first_value c.root_count-n.ensures, c.root_count-n.ensures, c.size_of-b.ensures, refl)

pub root_at-requires : goal.root_at-requires
root_at-requires c = record { k_bound = omega (arith, c.loop-j.invariant.1); i_bound = c.requires.i_bound }

pub loop-j-preserved : goal.loop-j-preserved
loop-j-preserved c = let inv = c.loop-j.invariant in
    (inv.0 ∙ stmt_turn _ _ _ _ _ _ _ _ _ c.loop-j-test.true inv.2 c.root_at.ensures c.write_uses-at.ensures, inv.1, inv.2, c.write_uses-at.auto.order ∙ inv.3)

pub returns : goal.returns
returns c = stmt_end _ _ _ _ _ _ _ c.loop-j-test.false c.loop-j.invariant.0
