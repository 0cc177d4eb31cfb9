use Rattle.std.proofs.Common.{◌∙◌, refl}
use Rattle.reads.proofs.Visits.{run_turn, run_end}
use Rattle.reads.proofs.visit_run.Goals as goal

pub loop-j-init : goal.loop-j-init
loop-j-init g c = (λ h s. refl, refl)

pub loop-j-preserved : goal.loop-j-preserved
loop-j-preserved g c = let inv = c.loop-j.invariant in
    (λ h s. inv.0 h s ∙ run_turn h _ _ _ _ _ _ _ _ _ c.loop-j-test.true c.get-n.ensures c.get.ensures (s _ _ _ c.step.ensures), c.step.auto.arg2 ∙ inv.1)

pub returns : goal.returns
returns g c = λ h s. run_end _ _ _ _ _ _ _ _ c.loop-j-test.false (c.loop-j.invariant.0 h s)
