use Rattle.sorts.proofs.RowsMade.{least_both, filled_start, filled_length, filled_turn, filled_end}
use native.Mathlib.Omega.{arith}
use Rattle.sorts.proofs.sorts.Goals as goal

pub loop-i-init : goal.loop-i-init
loop-i-init c = filled_start _ _

pub row-requires : goal.row-requires
row-requires c = (least_both _ _ _ _ c.min-m.ensures c.loop-i-test.true).0

pub bounds-rows-i : goal.bounds-rows-i
bounds-rows-i c = omega (arith, (least_both _ _ _ _ c.min-m.ensures c.loop-i-test.true).1, filled_length _ _ _ _ c.loop-i.invariant)

pub loop-i-preserved : goal.loop-i-preserved
loop-i-preserved c = filled_turn _ _ _ _ c.loop-i.invariant (least_both _ _ _ _ c.min-m.ensures c.loop-i-test.true).1 _ c.row.ensures

pub returns : goal.returns
returns c = filled_end _ _ _ _ _ _ _ _ c.min-m.ensures (omega arith) c.loop-i-test.false c.loop-i.invariant
