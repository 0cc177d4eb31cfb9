use Rattle.names.proofs.Entered.{entry_table_lem}
use Rattle.definition.proofs.Runs.{loop_start, lists_turn, lists_end}
use Rattle.names.specs.Spots.{entry_spots, ticked}
use Rattle.places.specs.declared.Places.{Places}
use Rattle.definition.specs.Lists.{gather, range}
use Prim.Native.Nat.{ℕ}
use mathlib.Core.Path.{refl, ap, ◌∙◌}
use native.Mathlib.Omega.{arith}
use Rattle.names.proofs.entry.entry_reads.Goals as goal

pub loop-i-init : goal.loop-i-init
loop-i-init c = let given = c.args in (loop_start (λ (m : ℕ). ticked given.numbers.now given.tab.now (gather (entry_spots given.f.now) (range 0 m))) _ _ c.size_of-n.ensures, c.size_of-n.ensures, ap (λ (p : Places). p.exprs) c.places_of-from.ensures, refl)

pub tick_stmt-requires : goal.tick_stmt-requires
tick_stmt-requires c = let inv = c.loop-i.invariant in record { from_value = (inv.2, omega (arith, c.loop-i-test.true, inv.1)); ordered = c.requires.ordered }

pub loop-i-preserved : goal.loop-i-preserved
unfolding ticked
loop-i-preserved c = let inv = c.loop-i.invariant in (inv.0 ∙ lists_turn (ticked _) _ (λ t. refl) (λ t x xs. refl) (entry_spots c.args.f.now) _ _ _ _ c.loop-i-test.true c.tick_stmt.ensures, inv.1, inv.2, c.tick_stmt.auto.tab ∙ inv.3)

pub returns : goal.returns
unfolding ticked
returns c = entry_table_lem c.args.f.now c.type_inv.f c.args.numbers.now c.requires.numbered _ _ c.requires.tab_value (lists_end (ticked _) _ (λ t. refl) (λ t x xs. refl) (entry_spots c.args.f.now) _ _ _ _ c.loop-i-test.false c.loop-i.invariant.0)
