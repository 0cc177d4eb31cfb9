-- Below 2^63 the bits themselves, else a minus and what is missing to 2^64; either is written in decimal up to 9 and in hexadecimal above.
use Rattle.digits.proofs.Texts.{num_digit, num_hex, num_minus_digit, num_minus_hex}
use Rattle.leaf.proofs.Leaves.{leaf_as}
use native.Mathlib.Omega.{arith}
use Rattle.digits.proofs.num.Goals as goal

pub returns-then-bits-le9 : goal.returns-then-bits-le9
returns-then-bits-le9 c = leaf_as c.behind.ensures (num_digit _ c.if-bits-lt-HALF.true c.if-bits-le9.true)

pub returns-then-bits-lt-HALF : goal.returns-then-bits-lt-HALF
returns-then-bits-lt-HALF c = leaf_as c.behind-then-bits-lt-HALF.ensures (num_hex _ c.if-bits-lt-HALF.true c.if-bits-le9.false)

pub returns-then-m-le9 : goal.returns-then-m-le9
returns-then-m-le9 c = leaf_as c.behind-then-m-le9.ensures (num_minus_digit _ _ c.if-bits-lt-HALF.false (omega arith) c.if-m-le9.true)

pub returns : goal.returns
returns c = leaf_as c.behind-2.ensures (num_minus_hex _ _ c.if-bits-lt-HALF.false (omega arith) c.if-m-le9.false)
