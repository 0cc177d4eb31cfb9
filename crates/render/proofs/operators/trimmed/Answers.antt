use native.Mathlib.Omega.{arith}
use borrow.Author.Rules.{rules}
use Rattle.render.proofs.Trimming.{trim_start_lem, trim_inside, trim_turn, trim_found, trim_done}
use Rattle.render.proofs.operators.trimmed.Goals as goal

pub loop-k-init : goal.loop-k-init
loop-k-init c = trim_start_lem _ _ _ _ c.part_size-k.ensures

pub overflow_add-from : goal.overflow_add-from
overflow_add-from c = omega (arith, c.loop-k.invariant.inside)

pub bounds-f-from : goal.bounds-f-from
bounds-f-from c = trim_inside _ _ _ _ c.loop-k.invariant c.loop-k-test.true

pub returns-then-f-from-ne115 : goal.returns-then-f-from-ne115
returns-then-f-from-ne115 c = trim_found _ _ _ _ c.loop-k.invariant c.loop-k-test.true c.if-f-from-ne115.true

pub loop-k-preserved : goal.loop-k-preserved
loop-k-preserved c = trim_turn _ _ _ _ c.loop-k.invariant c.loop-k-test.true c.if-f-from-ne115.false

pub returns : goal.returns
returns c = trim_done _ _ _ _ c.loop-k.invariant (search rules)
