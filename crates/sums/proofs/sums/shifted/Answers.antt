-- Below 2^63 the constant moves as asked; from there on it is negative, and what is missing to 2^64 moves the other way.
use Rattle.sums.proofs.Signed.{low, high}
use native.Mathlib.Omega.{arith}
use Rattle.sums.proofs.sums.shifted.Goals as goal

pub returns-then-c-lt-HALF : goal.returns-then-c-lt-HALF
returns-then-c-lt-HALF c = low _ _ _ _ c.if-c-lt-HALF.true c.moved.ensures

pub returns : goal.returns
returns c = high _ _ _ _ _ c.if-c-lt-HALF.false (omega arith) c.moved-2.ensures
