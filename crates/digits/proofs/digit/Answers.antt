-- Below ten the digit is counted from the character 0, from ten on from the letter for ten, by the definition's own test.
use Rattle.digits.proofs.Numerals.{digit_low, digit_high}
use Rattle.digits.proofs.digit.Goals as goal

pub returns-then-d-lt10 : goal.returns-then-d-lt10
returns-then-d-lt10 c = digit_low _ _ c.if-d-lt10.true

pub returns : goal.returns
returns c = digit_high _ _ _ c.if-d-lt10.false c.ten.ensures.0
