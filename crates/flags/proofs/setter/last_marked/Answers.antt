use native.Mathlib.Omega.{arith}
use Rattle.records.proofs.Items.{size_small}
use Rattle.flags.proofs.Marks.{last_is, goes_on, none_left}
use Rattle.flags.proofs.setter.last_marked.Goals as goal

pub overflow_step-i : goal.overflow_step-i
overflow_step-i c = omega (arith, size_small c.args.f.now c.type_inv.f 4, c.requires)

pub returns-then-flags : goal.returns-then-flags
returns-then-flags c = last_is _ _ _ _ _ c.stmt_at.ensures _ c.flags.ensures c.loop-i.invariant c.loop-i-test.true c.if-flags.true

pub loop-i-preserved : goal.loop-i-preserved
loop-i-preserved c = goes_on _ _ _ _ _ c.stmt_at.ensures _ c.flags.ensures c.loop-i.invariant c.loop-i-test.true c.if-flags.false

pub returns : goal.returns
returns c = none_left _ _ _ _ c.loop-i.invariant (omega arith)
