-- With fewer bytes than digits nothing is touched; else digits filled in from the last one down are the numeral.
use Rattle.digits.proofs.Numerals.{digits_short, digits_fit}
use Rattle.digits.proofs.digits.Goals as goal

pub returns-then-dst-n : goal.returns-then-dst-n
returns-then-dst-n c = digits_short _ _ _ _ c.width-n.ensures.0 c.if-dst-n.true

pub returns : goal.returns
returns c = digits_fit _ _ _ _ c.width-n.ensures.0 _ c.if-dst-n.false c.fill.ensures
