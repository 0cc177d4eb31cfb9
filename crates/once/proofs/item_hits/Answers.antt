use mathlib.Core.Path.{refl, ap, ◌∙◌}
use native.Mathlib.Omega.{arith}
use Rattle.defined.specs.Defined.{value_of, hit, item_hits}
use Rattle.records.proofs.Below.{sum_start, sum_turn, sum_done}
use Rattle.once.proofs.item_hits.Goals as goal

pub loop-k-init : goal.loop-k-init
loop-k-init c = (sum_start _, omega arith, omega arith)

pub overflow_add-sum : goal.overflow_add-sum
overflow_add-sum c = omega (arith, c.hit_of-sum.ensures.1)

pub loop-k-preserved : goal.loop-k-preserved
loop-k-preserved c = (sum_turn _ c.loop-k.invariant.0 (c.hit_of-sum.ensures.0 ∙ ap (hit (value_of c.args.v)) c.item_value.ensures), omega arith, omega (arith, c.hit_of-sum.ensures.1))

pub returns : goal.returns
unfolding item_hits
returns c = (sum_done _ refl c.loop-k.invariant.0 (omega arith), omega arith)
