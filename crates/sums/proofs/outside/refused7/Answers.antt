use mathlib.Core.Path.{◌≡◌, ◌∙◌}
use Rattle.sums.proofs.Naming.{under, expr_inside, clear_turn, clear_hit}
use Rattle.sums.proofs.Trees.{out_start, out_end}
use native.Mathlib.Omega.{arith}
use Rattle.sums.proofs.outside.refused7.Goals as goal

pub loop-i-init : goal.loop-i-init
loop-i-init c = (omega arith, λ E k s e. out_start E _ k)

pub sum_outside-requires : goal.sum_outside-requires
sum_outside-requires c = expr_inside _ _ _ c.args.of.now.ground _ (under c.loop-i-test.true c.size_of-n.ensures)

pub returns-then-sum_outside : goal.returns-then-sum_outside
returns-then-sum_outside c = clear_hit _ _ _ c.args.of.now.ground c.args.of.now.bytes _ _ _ _ (under c.loop-i-test.true c.size_of-n.ensures) c.sum_outside.ensures c.if-sum_outside.true

pub loop-i-preserved : goal.loop-i-preserved
loop-i-preserved c = (omega arith, clear_turn _ _ _ c.args.of.now.ground c.args.of.now.bytes _ _ _ _ (under c.loop-i-test.true c.size_of-n.ensures) c.sum_outside.ensures c.if-sum_outside.false c.loop-i.invariant.1)

pub returns : goal.returns
returns c = λ E k s e. let q : c.loop-i.i ≡ c.size_of-n.result = omega arith in out_end E _ k _ (q ∙ c.size_of-n.ensures) (c.loop-i.invariant.1 E k s e)
