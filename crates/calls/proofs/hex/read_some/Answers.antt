-- Without a digit there is no number; with one or more, the digits that are read are the number.
use Rattle.calls.proofs.Digits.{some_none, some_is}
use Rattle.calls.proofs.hex.read_some.Goals as goal

pub returns-then-n-eq0 : goal.returns-then-n-eq0
returns-then-n-eq0 c = some_none _ _ _ c.if-n-eq0.true

pub returns : goal.returns
returns c = some_is _ _ _ _ c.if-n-eq0.false c.requires c.read_digits.ensures
