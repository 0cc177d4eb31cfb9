use native.Mathlib.Omega.{arith}
use mathlib.Core.Path.{refl, ◌∙◌}
use Rattle.definition.proofs.Runs.{lists_turn, lists_end}
use Rattle.owned.specs.Tally.{mentioned, tally}
use Rattle.owned.proofs.Tally.{tally_none, tally_next, runs_start, tally_keeps}
use Rattle.records.proofs.Items.{first_start, first_turn, items_fit, exprs_fit}
use Rattle.owned.proofs.tally_statements.Goals as goal

pub loop-i-init : goal.loop-i-init
loop-i-init c = (runs_start _ _ _ _ c.size_of-i-end.ensures, first_start _, c.size_of-i-end.ensures, refl)

pub tally_roots-requires : goal.tally_roots-requires
tally_roots-requires c = let inv = c.loop-i.invariant in record { first_value = inv.1; i_bound = omega (arith, exprs_fit _ c.requires _ inv.2 c.loop-i-test.true inv.1) }

pub overflow_cast-first : goal.overflow_cast-first
overflow_cast-first c = let inv = c.loop-i.invariant in omega (arith, c.items_of.ensures, items_fit _ c.requires _ inv.2 c.loop-i-test.true inv.1)

pub overflow_add-first : goal.overflow_add-first
overflow_add-first c = let inv = c.loop-i.invariant in omega (arith, c.items_of.ensures, items_fit _ c.requires _ inv.2 c.loop-i-test.true inv.1)

pub loop-i-preserved : goal.loop-i-preserved
loop-i-preserved c = let inv = c.loop-i.invariant in
    (inv.0 ∙ lists_turn tally mentioned tally_none tally_next _ _ _ _ _ c.loop-i-test.true c.tally_roots.ensures, first_turn _ _ inv.1 c.items_of.ensures, inv.2, tally_keeps _ _ c.args.table.now _ c.tally_roots.ensures inv.3)

pub returns : goal.returns
returns c = lists_end tally mentioned tally_none tally_next _ _ _ _ _ c.loop-i-test.false c.loop-i.invariant.0
