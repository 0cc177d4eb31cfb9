-- More of what is not known is not known; the test before the sum is whether it is below 2^64, and else it is 0. Less is the difference where m is
-- below s, and else 0, which the difference of natural numbers is there by itself.
use Rattle.sums.proofs.Signed.{more_none, more_in, more_out, less_in, less_out}
use native.Mathlib.Omega.{arith}
use Rattle.sums.proofs.sums.moved.Goals as goal

pub returns-then-s-eq0 : goal.returns-then-s-eq0
returns-then-s-eq0 c = more_none _ _ _ c.if-more.true c.if-s-eq0.true

pub returns-then-m-s : goal.returns-then-m-s
returns-then-m-s c = more_in _ _ _ c.if-more.true c.if-s-eq0.false (omega arith)

pub returns-then-more : goal.returns-then-more
returns-then-more c = more_out _ _ _ c.if-more.true c.if-s-eq0.false (omega arith)

pub returns-then-m-s-2 : goal.returns-then-m-s-2
returns-then-m-s-2 c = less_in _ _ _ c.if-more.false

pub returns : goal.returns
returns c = less_out _ _ _ c.if-more.false c.if-m-s-2.false
