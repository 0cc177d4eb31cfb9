use Rattle.structure.proofs.Counting.{tests_start, turned, tests_end, at_most}
use native.Mathlib.Omega.{arith}
use Rattle.structure.proofs.writing.count_tests.Goals as goal

pub loop-i-init : goal.loop-i-init
loop-i-init c = (tests_start _ _ _ _, omega arith)

pub overflow_add-c : goal.overflow_add-c
overflow_add-c c = omega (arith, c.loop-i.invariant, at_most c.is_if.result _ c.from-c.ensures)

pub loop-i-preserved : goal.loop-i-preserved
loop-i-preserved c = let a = c.args in (turned a.lines.now a.tokens.now a.text.now a.n _ _ _ _ _ c.is_if.result _ c.first_of-a.ensures c.last_of-e.ensures c.is_if.ensures c.from-c.ensures c.loop-i-test.true c.loop-i.invariant.0, omega (arith, at_most c.is_if.result _ c.from-c.ensures, c.loop-i.invariant))

pub returns : goal.returns
returns c = tests_end _ _ _ _ _ _ _ c.loop-i.invariant.0 (omega arith)
