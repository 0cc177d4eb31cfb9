use native.Mathlib.Omega.{arith}
use mathlib.Core.Path.{refl, ◌∙◌, sym}
use Rattle.values.proofs.Chaining.{walk_none, walk_hit, walk_turn, walk_stop}
use Rattle.values.proofs.numbers.walk.Goals as goal

pub loop-x-init : goal.loop-x-init
loop-x-init c = (refl, omega arith)

pub returns-then-get-k : goal.returns-then-get-k
returns-then-get-k c = walk_hit _ _ _ _ c.loop-x-test.true _ c.get.ensures c.if-get-k.true ∙ sym c.loop-x.invariant.0

pub returns-then-y-x : goal.returns-then-y-x
returns-then-y-x c = walk_stop _ _ _ _ c.loop-x-test.true _ _ c.get.ensures c.if-get-k.false c.get-y.ensures c.if-y-x.true ∙ sym c.loop-x.invariant.0

pub loop-x-preserved : goal.loop-x-preserved
loop-x-preserved c = (c.loop-x.invariant.0 ∙ walk_turn _ _ _ _ c.loop-x-test.true _ _ c.get.ensures c.if-get-k.false c.get-y.ensures c.if-y-x.false, omega arith)

pub returns : goal.returns
returns c = walk_none _ _ _ _ (omega arith) ∙ sym c.loop-x.invariant.0
