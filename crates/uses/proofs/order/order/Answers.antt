use Rattle.uses.proofs.Orders.{starts_before, before_start, before_turn, starts_turn, start_here, start_fits, all_nodes, all_starts}
use Rattle.uses.proofs.Filling.{padded_none}
use Rattle.definition.specs.Lists.{range}
use Rattle.records.proofs.Items.{first_start, first_turn, items_few, items_fit, exprs_fit}
use lib.ListN.{length-set}
use mathlib.Core.Path.{refl, ◌∙◌}
use native.Mathlib.Omega.{arith}
use Rattle.uses.proofs.order.order.Goals as goal

pub loop-i-init : goal.loop-i-init
unfolding starts_before range
loop-i-init c = (before_start _ _, c.requires.cleared ∙ padded_none _, first_start _, c.size_of-n.ensures, omega arith, refl, refl)

pub overflow_cast-starts : goal.overflow_cast-starts
overflow_cast-starts c = let inv = c.loop-i.invariant in omega (arith, c.requires.small, start_fits _ _ _ _ _ _ c.requires.clear c.requires.room inv.0 inv.3 inv.4)

pub bounds-starts-i : goal.bounds-starts-i
bounds-starts-i c = omega (arith, c.requires.long)

pub write_stmt-at-requires : goal.write_stmt-at-requires
write_stmt-at-requires c = let inv = c.loop-i.invariant in record { first_value = inv.2; i_bound = omega (arith, exprs_fit _ (items_few _ c.type_inv.f c.requires.own) _ inv.3 c.loop-i-test.true inv.2) }

pub overflow_cast-first : goal.overflow_cast-first
overflow_cast-first c = let inv = c.loop-i.invariant in omega (arith, c.items_of.ensures, items_fit _ (items_few _ c.type_inv.f c.requires.own) _ inv.3 c.loop-i-test.true inv.2)

pub overflow_add-first : goal.overflow_add-first
overflow_add-first c = let inv = c.loop-i.invariant in omega (arith, c.items_of.ensures, items_fit _ (items_few _ c.type_inv.f c.requires.own) _ inv.3 c.loop-i-test.true inv.2)

pub loop-i-preserved : goal.loop-i-preserved
loop-i-preserved c = let inv = c.loop-i.invariant in
    let at = start_here _ _ _ _ _ _ c.requires.clear c.requires.room inv.0 inv.3 inv.4 in
    (before_turn _ _ _ _ _ inv.0 c.write_stmt-at.ensures, starts_turn _ _ _ _ _ _ inv.3 inv.4 c.requires.long at inv.1, first_turn _ _ inv.2 c.items_of.ensures, inv.3, omega arith, c.write_stmt-at.auto.order ∙ inv.5, simp length-set inv.6)

pub overflow_cast-starts-2 : goal.overflow_cast-starts-2
overflow_cast-starts-2 c = let inv = c.loop-i.invariant in omega (arith, c.requires.small, start_fits _ _ _ _ _ _ c.requires.clear c.requires.room inv.0 inv.3 inv.4)

pub bounds-starts-n : goal.bounds-starts-n
bounds-starts-n c = omega (arith, c.requires.long)

pub returns : goal.returns
returns c = let inv = c.loop-i.invariant in record {
  nodes = all_nodes _ _ _ _ _ _ c.requires.clear c.requires.room inv.0 inv.3 inv.4 c.loop-i-test.false;
  begins = all_starts _ _ _ _ _ _ c.requires.clear c.requires.room inv.0 inv.3 inv.4 c.loop-i-test.false _ _ c.requires.long inv.1;
}
