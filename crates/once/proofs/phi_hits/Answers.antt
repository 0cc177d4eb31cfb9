use mathlib.Core.Path.{ap, ◌∙◌}
use native.Mathlib.Omega.{arith}
use Rattle.defined.specs.Defined.{value_of, hit, phi_hits}
use Rattle.records.proofs.Below.{sum_start, sum_turn, sum_done}
use Rattle.once.proofs.phi_hits.Goals as goal

pub loop-i-init : goal.loop-i-init
loop-i-init c = (sum_start _, omega arith, omega arith)

pub overflow_add-sum : goal.overflow_add-sum
overflow_add-sum c = omega (arith, c.hit_of-sum.ensures.1)

pub loop-i-preserved : goal.loop-i-preserved
loop-i-preserved c = (sum_turn _ c.loop-i.invariant.0 (c.hit_of-sum.ensures.0 ∙ ap (hit (value_of c.args.v)) c.phi_value.ensures), omega arith, omega (arith, c.hit_of-sum.ensures.1))

pub returns : goal.returns
unfolding phi_hits
returns c = sum_done _ c.size_of-i-end.ensures c.loop-i.invariant.0 (omega arith)
