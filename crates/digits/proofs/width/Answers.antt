use Rattle.digits.proofs.Numerals.{turned_none, turned_more, turned_few, turned_fewer, turned_last, quotient_less}
use native.Mathlib.Omega.{arith}
use Rattle.digits.proofs.width.Goals as goal

pub loop-r-init : goal.loop-r-init
loop-r-init c = turned_none _ _

pub overflow_add-n : goal.overflow_add-n
overflow_add-n c = let k = turned_fewer _ _ _ _ _ c.base-b.ensures.0 c.ranges.v.fits c.loop-r.invariant c.base-b.ensures.1 c.loop-r-test.true in omega arith

pub loop-r-smaller : goal.loop-r-smaller
loop-r-smaller c = quotient_less _ _ c.base-b.ensures.1 c.loop-r-test.true

pub loop-r-preserved : goal.loop-r-preserved
loop-r-preserved c = turned_more _ _ _ _ c.base-b.ensures.1 c.loop-r.invariant c.loop-r-test.true

pub returns : goal.returns
returns c = let e = c.base-b.ensures.0 in
    let v = c.ranges.v.fits in
    let k = c.loop-r.invariant in
    (turned_last _ _ _ _ _ e v k c.loop-r-test.false, turned_few _ _ _ _ _ e v k)
