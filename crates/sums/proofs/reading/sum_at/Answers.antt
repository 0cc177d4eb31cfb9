-- Without a constant on the right there is no sum; with one the left child is lower, so its place is inside, and the operator decides.
use Rattle.sums.proofs.Nodes.{const_lower, sum_none, sum_some}
use native.Mathlib.Omega.{arith}
use mathlib.Core.Path.{sym, ◌∙◌}
use Rattle.sums.proofs.reading.sum_at.Goals as goal

pub returns-then-not-const_at : goal.returns-then-not-const_at
returns-then-not-const_at c = sum_none _ _ _ _ _ c.const_at.ensures c.if-not-const_at.true

pub used_at-s-requires : goal.used_at-s-requires
used_at-s-requires c = let l = const_lower _ _ _ c.expr_word.ensures (sym c.const_at.ensures ∙ c.if-not-const_at.false) in omega (arith, c.requires)

pub returns : goal.returns
returns c = sum_some _ _ _ _ _ c.const_at.ensures _ _ _ _ _ _ c.if-not-const_at.false c.expr_word.ensures c.used_at-s.ensures c.op_byte.ensures c.expr_word-2.ensures c.expr_long.ensures c.signed.ensures
