use Rattle.passes.proofs.Goals.{label_none, label_found, label_ended, label_on}
use Rattle.passes.specs.Regions.{found}
use mathlib.Core.Path.{refl, sym, ap, ◌∙◌}
use Rattle.ifs.proofs.find_label.Goals as goal

pub loop-j-init : goal.loop-j-init
loop-j-init c = refl

pub returns-in-Hit : goal.returns-in-Hit
returns-in-Hit c = label_found _ _ _ _ _ c.loop-j-test.true _ c.get.ensures c.in-Hit.ensures ∙ ap (found _) (sym c.loop-j.invariant)

pub returns-in-End : goal.returns-in-End
returns-in-End c = label_ended _ _ _ _ _ c.loop-j-test.true _ c.get.ensures c.in-End.ensures ∙ ap (found _) (sym c.loop-j.invariant)

pub loop-j-preserved : goal.loop-j-preserved
loop-j-preserved c = c.loop-j.invariant ∙ label_on _ _ _ _ _ c.loop-j-test.true _ c.get.ensures c.in-Pass.ensures

pub returns : goal.returns
returns c = label_none _ _ _ _ _ c.loop-j-test.false ∙ ap (found _) (sym c.loop-j.invariant)
