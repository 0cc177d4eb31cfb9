use mathlib.Core.Path.{ap}
use native.Mathlib.Omega.{arith}
use mathlib.Core.Bool.{not}
use Rattle.records.proofs.Items.{first_start, first_turn}
use Rattle.shape.proofs.Shapes.{cut_at}
use Rattle.records.proofs.Below.{all_start, all_turn, all_fail, all_done}
use Rattle.shape.proofs.stmts_shaped.Goals as goal

pub loop-i-init : goal.loop-i-init
loop-i-init c = (all_start _, first_start _)

pub stmt_shaped-requires : goal.stmt_shaped-requires
stmt_shaped-requires c = cut_at _ c.type_inv.f c.requires _ c.size_of-i-end.ensures c.loop-i-test.true c.loop-i.invariant.1

pub returns-then-not-stmt_shaped : goal.returns-then-not-stmt_shaped
returns-then-not-stmt_shaped c = all_fail _ c.size_of-i-end.ensures c.stmt_shaped.ensures c.loop-i-test.true (ap not c.if-not-stmt_shaped.true)

pub overflow_add-at : goal.overflow_add-at
overflow_add-at c =
    let cut = cut_at _ c.type_inv.f c.requires _ c.size_of-i-end.ensures c.loop-i-test.true c.loop-i.invariant.1 in
    omega (arith, cut.within)

pub loop-i-preserved : goal.loop-i-preserved
loop-i-preserved c =
    let inv = c.loop-i.invariant in
    (all_turn _ c.stmt_shaped.ensures inv.0 (ap not c.if-not-stmt_shaped.false), first_turn _ _ inv.1 c.items_of-at.ensures)

pub returns : goal.returns
returns c = all_done _ c.size_of-i-end.ensures c.loop-i.invariant.0 (omega arith)
