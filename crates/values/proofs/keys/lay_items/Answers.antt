use native.Mathlib.Omega.{arith}
use mathlib.Core.Path.{refl, sym, ◌∙◌}
use Rattle.values.proofs.Laying.{runs_start, runs_turn, runs_end}
use Rattle.records.proofs.Items.{first_start, first_turn, items_fit}
use Rattle.values.proofs.Placed.{items_length}
use Rattle.values.proofs.keys.lay_items.Goals as goal

pub loop-i-init : goal.loop-i-init
loop-i-init c = (runs_start _ _ _ _ _ c.size_of-n.ensures, first_start _, c.size_of-n.ensures, refl)

pub overflow_cast-first : goal.overflow_cast-first
overflow_cast-first c = let inv = c.loop-i.invariant in omega (arith, items_fit _ c.requires.statements_bound _ inv.2 c.loop-i-test.true inv.1)

pub overflow_add-from : goal.overflow_add-from
overflow_add-from c = let inv = c.loop-i.invariant in omega (arith, items_fit _ c.requires.statements_bound _ inv.2 c.loop-i-test.true inv.1)

pub lay_stmt-requires : goal.lay_stmt-requires
lay_stmt-requires c = let inv = c.loop-i.invariant in
    let fit = items_fit _ c.requires.statements_bound _ inv.2 c.loop-i-test.true inv.1 in
    record { f_value = c.requires.f_value; i_bound = (omega arith, inv.1, fit); from_bound = omega arith }

pub overflow_cast-first-in-loop-i : goal.overflow_cast-first-in-loop-i
overflow_cast-first-in-loop-i c = let inv = c.loop-i.invariant in omega (arith, c.items_of.ensures, items_fit _ c.requires.statements_bound _ inv.2 c.loop-i-test.true inv.1)

pub overflow_add-first : goal.overflow_add-first
overflow_add-first c = let inv = c.loop-i.invariant in omega (arith, c.items_of.ensures, items_fit _ c.requires.statements_bound _ inv.2 c.loop-i-test.true inv.1)

pub loop-i-preserved : goal.loop-i-preserved
loop-i-preserved c = let inv = c.loop-i.invariant in
    (inv.0 ∙ runs_turn _ _ _ _ _ _ _ _ _ c.loop-i-test.true c.lay_stmt.ensures (c.items_of.ensures ∙ sym (items_length _ _)) refl, first_turn _ _ inv.1 c.items_of.ensures, inv.2, c.lay_stmt.auto.keys ∙ inv.3)

pub returns : goal.returns
returns c = runs_end _ _ _ _ _ _ _ c.loop-i-test.false c.loop-i.invariant.0
