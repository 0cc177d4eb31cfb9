use mathlib.Core.Path.{refl, ◌∙◌}
use Prim.Native.Nat.{ℕ}
use Rattle.definition.specs.Lists.{gather, range}
use Rattle.definition.proofs.Runs.{loop_start, lists_turn, lists_end}
use Rattle.reads.specs.Counts.{visit}
use Rattle.labels.specs.Labels.{labelled, target_at}
use Rattle.labels.proofs.label_targets.Goals as goal

pub loop-i-init : goal.loop-i-init
loop-i-init c = let given = c.args in (loop_start (λ (m : ℕ). visit (labelled given.f.now) given.tab.now (gather (target_at given.f.now) (range 0 m))) _ _ c.size_of-n.ensures, c.size_of-n.ensures, refl)

pub loop-i-preserved : goal.loop-i-preserved
unfolding visit
loop-i-preserved c = let inv = c.loop-i.invariant in (inv.0 ∙ lists_turn (visit _) _ (λ l. refl) (λ l x xs. refl) (target_at c.args.f.now) _ _ _ _ c.loop-i-test.true c.label_target.ensures, inv.1, c.label_target.auto.tab ∙ inv.2)

pub returns : goal.returns
unfolding visit
returns c = lists_end (visit _) _ (λ l. refl) (λ l x xs. refl) (target_at c.args.f.now) _ _ _ _ c.loop-i-test.false c.loop-i.invariant.0
