use native.Mathlib.Omega.{arith}
use mathlib.Core.Path.{refl, sym, ◌∙◌}
use Rattle.classes.proofs.Turns.{run_start, run_turn, run_end}
use Rattle.classes.proofs.join_run.Goals as goal

pub loop-j-init : goal.loop-j-init
loop-j-init c = (run_start _ _ _ _ _ _, omega arith, refl)

pub union-requires : goal.union-requires
union-requires c = c.requires.0 ∙ sym c.loop-j.invariant.2

pub loop-j-preserved : goal.loop-j-preserved
loop-j-preserved c = (c.loop-j.invariant.0 ∙ run_turn _ _ _ _ _ _ _ _ _ c.loop-j-test.true c.get-b.ensures c.union.ensures, omega arith, c.union.auto.roots ∙ c.loop-j.invariant.2)

pub returns : goal.returns
returns c = sym (c.loop-j.invariant.0 ∙ run_end _ _ _ _ _ _ _ c.loop-j-test.false)
