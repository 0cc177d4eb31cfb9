use mathlib.Core.Path.{ap, refl, ◌∙◌}
use mathlib.Core.Bool.{not}
use native.Mathlib.Omega.{arith}
use Rattle.slots.proofs.Taking.{runs_start, runs_turn, runs_stop, runs_end, phi_list, phis_are, take_read}
use Rattle.slots.proofs.take_phis.Goals as goal

pub loop-i-init : goal.loop-i-init
loop-i-init c = (runs_start (phi_list c.args.f.now) _ _ _ _ c.size_of-i-end.ensures refl, omega arith, refl)

pub returns-then-not-take : goal.returns-then-not-take
returns-then-not-take c = runs_stop (phi_list c.args.f.now) _ _ _ _ c.loop-i.invariant.0 _ _ c.loop-i-test.true (take_read _ _ _ _ c.phi_value.ensures c.take.ensures) (ap not c.if-not-take.true) ∙ phis_are _ _

pub loop-i-preserved : goal.loop-i-preserved
loop-i-preserved c = (runs_turn (phi_list c.args.f.now) _ _ _ _ c.loop-i.invariant.0 _ _ c.loop-i-test.true (take_read _ _ _ _ c.phi_value.ensures c.take.ensures) (ap not c.if-not-take.false), omega arith, c.take.auto.table ∙ c.loop-i.invariant.2)

pub returns : goal.returns
returns c = runs_end (phi_list c.args.f.now) _ _ _ _ c.loop-i.invariant.0 (omega arith) ∙ phis_are _ _
