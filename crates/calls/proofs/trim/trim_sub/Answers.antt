use native.Mathlib.Omega.{arith}
use Rattle.words.proofs.Parts.{size_most}
use Rattle.calls.proofs.Trims.{trim_start_lem, trim_more, trim_done}
use Rattle.calls.proofs.trim.trim_sub.Goals as goal

pub loop-k-init : goal.loop-k-init
loop-k-init c = trim_start_lem _ _ _

pub overflow_add-at : goal.overflow_add-at
overflow_add-at c = let a = c.args in omega (arith, size_most a.f.now a.at a.n)

pub overflow_sub-n : goal.overflow_sub-n
overflow_sub-n c = let a = c.args in omega (arith, size_most a.f.now a.at a.n)

pub overflow_add-k : goal.overflow_add-k
overflow_add-k c = let a = c.args in omega (arith, size_most a.f.now a.at a.n, (trim_more a.f.now a.at a.n _ _ c.loop-k.invariant c.begins_sub.ensures c.loop-k-test.true).1)

pub loop-k-smaller : goal.loop-k-smaller
loop-k-smaller c = let a = c.args in omega (arith, size_most a.f.now a.at a.n, (trim_more a.f.now a.at a.n _ _ c.loop-k.invariant c.begins_sub.ensures c.loop-k-test.true).1)

pub loop-k-preserved : goal.loop-k-preserved
loop-k-preserved c = trim_more _ _ _ _ _ c.loop-k.invariant c.begins_sub.ensures c.loop-k-test.true

pub returns : goal.returns
returns c = trim_done _ _ _ _ _ c.loop-k.invariant c.begins_sub.ensures c.loop-k-test.false
