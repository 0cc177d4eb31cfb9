use Rattle.definition.proofs.Runs.{each_turn, each_end}
use Rattle.naming.specs.Walk.{walked}
use Rattle.names.specs.Spots.{named}
use mathlib.Core.Path.{refl, ap, ◌∙◌}
use Rattle.naming.proofs.runs.name_run.Goals as goal

pub loop-k-init : goal.loop-k-init
loop-k-init g c = (λ h s. refl, refl, refl)

pub loop-k-preserved : goal.loop-k-preserved
unfolding walked
loop-k-preserved g c = let inv = c.loop-k.invariant in
    (λ h s. inv.0 h s ∙ each_turn (walked _) _ (λ S. refl) (λ S x xs. refl) h _ _ _ _ c.loop-k-test.true (c.name_key-next.ensures ∙ ap (named _ _) (s _ _ c.mention-m.ensures)), c.name_key-next.auto.names ∙ inv.1, c.name_key-next.auto.seen ∙ inv.2)

pub returns : goal.returns
unfolding walked
returns g c = λ h s. each_end (walked _) _ (λ S. refl) (λ S x xs. refl) h _ _ _ _ c.loop-k-test.false (c.loop-k.invariant.0 h s)
