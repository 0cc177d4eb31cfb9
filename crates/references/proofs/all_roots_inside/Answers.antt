use mathlib.Core.Path.{ap}
use native.Mathlib.Omega.{arith}
use mathlib.Core.Bool.{not}
use Rattle.records.proofs.Items.{first_start, first_turn, items_fit, exprs_fit}
use Rattle.records.proofs.Below.{all_start, all_turn, all_fail, all_done}
use Rattle.references.proofs.all_roots_inside.Goals as goal

pub loop-i-init : goal.loop-i-init
loop-i-init c = (all_start _, first_start _, c.size_of-i-end.ensures, omega arith)

pub roots_inside-requires : goal.roots_inside-requires
roots_inside-requires c = let inv = c.loop-i.invariant in record { first_value = inv.1; i_bound = omega (arith, exprs_fit _ c.requires _ inv.2 c.loop-i-test.true inv.1) }

pub returns-then-not-roots_inside : goal.returns-then-not-roots_inside
returns-then-not-roots_inside c = all_fail _ c.loop-i.invariant.2 c.roots_inside.ensures c.loop-i-test.true (ap not c.if-not-roots_inside.true)

pub overflow_cast-first : goal.overflow_cast-first
overflow_cast-first c = let inv = c.loop-i.invariant in omega (arith, c.items_of.ensures, items_fit _ c.requires _ inv.2 c.loop-i-test.true inv.1)

pub overflow_add-first : goal.overflow_add-first
overflow_add-first c = let inv = c.loop-i.invariant in omega (arith, c.items_of.ensures, items_fit _ c.requires _ inv.2 c.loop-i-test.true inv.1)

pub loop-i-preserved : goal.loop-i-preserved
loop-i-preserved c = let inv = c.loop-i.invariant in
    (all_turn _ c.roots_inside.ensures inv.0 (ap not c.if-not-roots_inside.false), first_turn _ _ inv.1 c.items_of.ensures, inv.2, omega arith)

pub returns : goal.returns
returns c = all_done _ c.loop-i.invariant.2 c.loop-i.invariant.0 (omega arith)
