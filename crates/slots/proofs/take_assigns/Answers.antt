use mathlib.Core.Path.{refl, ap, ◌∙◌}
use mathlib.Core.Bool.{true, not}
use native.Mathlib.Omega.{arith}
use Rattle.definition.specs.Meaning.{assigned}
use Rattle.slots.specs.Slots.{slots, takes}
use Rattle.slots.proofs.Taking.{runs_start, runs_turn, runs_stop, runs_end}
use Rattle.slots.proofs.take_assigns.Goals as goal

pub loop-i-init : goal.loop-i-init
loop-i-init c = (runs_start (assigned c.args.f.now) _ _ _ _ c.size_of-i-end.ensures refl, omega arith, refl)

pub returns-then-not-take_defined : goal.returns-then-not-take_defined
returns-then-not-take_defined c = runs_stop (assigned c.args.f.now) _ _ _ _ c.loop-i.invariant.0 _ _ c.loop-i-test.true (c.take_defined.ensures ∙ ap (takes (slots c.loop-i.table true)) c.assigned_by.ensures) (ap not c.if-not-take_defined.true)

pub loop-i-preserved : goal.loop-i-preserved
loop-i-preserved c = (runs_turn (assigned c.args.f.now) _ _ _ _ c.loop-i.invariant.0 _ _ c.loop-i-test.true (c.take_defined.ensures ∙ ap (takes (slots c.loop-i.table true)) c.assigned_by.ensures) (ap not c.if-not-take_defined.false), omega arith, c.take_defined.auto.table ∙ c.loop-i.invariant.2)

pub returns : goal.returns
returns c = runs_end (assigned c.args.f.now) _ _ _ _ c.loop-i.invariant.0 (omega arith)
