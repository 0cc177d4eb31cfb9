-- By the operator's byte: a plus adds, a minus subtracts, and any other derives nothing.
use Rattle.definition.specs.Offsets.{plus, minus}
use Rattle.sums.specs.Address.{moved, shifted, signed_by}
use Rattle.sums.proofs.Signed.{by_sign, by_none}
use Rattle.sums.proofs.sums.signed.Goals as goal

pub returns-then-op-eq-PLUS : goal.returns-then-op-eq-PLUS
unfolding signed_by plus shifted moved
returns-then-op-eq-PLUS c = let a = c.args in by_sign a.s a.c a.op 43 _ c.if-op-eq-PLUS.true c.shifted.ensures

pub returns-then-op-eq-MINUS : goal.returns-then-op-eq-MINUS
unfolding signed_by minus shifted moved
returns-then-op-eq-MINUS c = let a = c.args in by_sign a.s a.c a.op 45 _ c.if-op-eq-MINUS.true c.shifted-then-op-eq-MINUS.ensures

pub returns : goal.returns
returns c = by_none _ _ _ c.if-op-eq-PLUS.false c.if-op-eq-MINUS.false
