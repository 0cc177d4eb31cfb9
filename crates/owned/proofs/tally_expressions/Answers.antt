use mathlib.Core.Path.{refl, ◌∙◌}
use Rattle.definition.proofs.Runs.{lists_turn, lists_end}
use Rattle.owned.specs.Tally.{mentioned, tally}
use Rattle.owned.proofs.Tally.{tally_none, tally_next, runs_start, tally_keeps}
use Rattle.owned.proofs.tally_expressions.Goals as goal

pub loop-i-init : goal.loop-i-init
loop-i-init c = (runs_start _ _ _ _ c.size_of-i-end.ensures, refl)

pub loop-i-preserved : goal.loop-i-preserved
loop-i-preserved c = let inv = c.loop-i.invariant in
    (inv.0 ∙ lists_turn tally mentioned tally_none tally_next _ _ _ _ _ c.loop-i-test.true c.tally_children.ensures, tally_keeps _ _ c.args.table.now _ c.tally_children.ensures inv.1)

pub returns : goal.returns
returns c = lists_end tally mentioned tally_none tally_next _ _ _ _ _ c.loop-i-test.false c.loop-i.invariant.0
