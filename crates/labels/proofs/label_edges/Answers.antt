use native.Mathlib.Omega.{arith}
use mathlib.Core.Path.{refl, ◌∙◌}
use Prim.Native.Nat.{ℕ}
use Rattle.definition.specs.Lists.{gather, range}
use Rattle.definition.proofs.Runs.{loop_start, lists_turn, lists_end}
use Rattle.reads.specs.Counts.{visit}
use Rattle.labels.specs.Labels.{labelled, edges_at}
use Rattle.labels.proofs.Labelling.{edges_then}
use Rattle.labels.proofs.label_edges.Goals as goal

pub loop-b-init : goal.loop-b-init
loop-b-init c = let given = c.args in (loop_start (λ (m : ℕ). visit (labelled given.f.now) given.tab.now (gather (edges_at given.f.now) (range 0 m))) _ _ c.size_of-n.ensures, c.size_of-n.ensures, refl)

pub label_fall-requires : goal.label_fall-requires
label_fall-requires c = omega (arith, c.loop-b-test.true, c.loop-b.invariant.1)

pub loop-b-preserved : goal.loop-b-preserved
unfolding visit
loop-b-preserved c = let inv = c.loop-b.invariant in (inv.0 ∙ lists_turn (visit _) _ (λ l. refl) (λ l x xs. refl) (edges_at c.args.f.now) _ _ _ _ c.loop-b-test.true (edges_then _ _ _ _ _ c.label_taken.ensures c.label_fall.ensures), inv.1, c.label_fall.auto.tab ∙ c.label_taken.auto.tab ∙ inv.2)

pub returns : goal.returns
unfolding visit
returns c = lists_end (visit _) _ (λ l. refl) (λ l x xs. refl) (edges_at c.args.f.now) _ _ _ _ c.loop-b-test.false c.loop-b.invariant.0
