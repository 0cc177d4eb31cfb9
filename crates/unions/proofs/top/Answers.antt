use native.Mathlib.Omega.{arith}
use mathlib.Core.Path.{refl, sym, ◌∙◌}
use Rattle.unions.proofs.Labels.{top_turn, top_end}
use Rattle.unions.proofs.Orders.{less_falls}
use Rattle.unions.proofs.top.Goals as goal

pub loop-r-init : goal.loop-r-init
loop-r-init c = (refl, c.get-p.ensures, omega arith, omega arith)

pub loop-r-smaller : goal.loop-r-smaller
loop-r-smaller c = less_falls _ _ _ (sym c.less.ensures ∙ c.loop-r-test.true)

pub loop-r-preserved : goal.loop-r-preserved
loop-r-preserved c = (top_turn _ _ _ _ _ c.loop-r.invariant.0 c.loop-r.invariant.1 (sym c.less.ensures ∙ c.loop-r-test.true), c.get-p-in-loop-r.ensures, omega arith, omega arith)

pub returns : goal.returns
returns c = top_end _ _ _ _ _ c.loop-r.invariant.0 c.loop-r.invariant.1 (sym c.less.ensures ∙ c.loop-r-test.false)
