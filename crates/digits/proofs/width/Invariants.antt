-- The count and the digits of what is left are one more than all digits; a division makes less of it, and below the base it is one digit.
use Rattle.digits.proofs.Numerals.{Turned}
use Rattle.digits.proofs.width.Given as goal

abbrev pub invariant-loop-r : goal.invariant-loop-r
invariant-loop-r l = Turned l.b l.v l.n l.r

abbrev pub decreases-loop-r : goal.decreases-loop-r
decreases-loop-r l = l.r
