use Rattle.definition.proofs.Runs.{each_turn, each_end}
use Rattle.owned.proofs.Tally.{mention_keeps, tally_none, tally_next}
use native.Mathlib.Omega.{arith}
use mathlib.Core.Path.{refl, ap, ◌∙◌}
use Rattle.owned.specs.Tally.{mentioned, tally}
use Rattle.mentions.specs.Named.{child_at}
use Rattle.mentions.proofs.Naming.{names_start, children_are, count_few}
use Rattle.owned.proofs.tally_children.Goals as goal

pub loop-k-init : goal.loop-k-init
loop-k-init c = (names_start (tally _) _ (children_are _ _) c.child_count-k-end.ensures, omega (arith, c.child_count-k-end.ensures, count_few c.args.f.now c.args.i), refl)

pub loop-k-preserved : goal.loop-k-preserved
loop-k-preserved c = let g = child_at c.args.f.now c.args.i in
    (c.loop-k.invariant.0 ∙ each_turn tally mentioned tally_none tally_next g _ _ _ _ c.loop-k-test.true (c.mention.ensures ∙ ap (mentioned _) c.child_at.ensures), omega arith, mention_keeps _ _ c.args.table.now _ c.mention.ensures c.loop-k.invariant.2)

pub returns : goal.returns
returns c = each_end tally mentioned tally_none tally_next (child_at c.args.f.now c.args.i) _ _ _ _ c.loop-k-test.false c.loop-k.invariant.0
