-- Behind the buffer's end the mark reads as 0; a mark that is not 1 says no address, and where it is 1 the next number is the address.
use Rattle.finish.proofs.Written.{address_none, address_some}
use Rattle.finish.proofs.rows.address_at.Goals as goal

pub returns-then-line_number-ne1 : goal.returns-then-line_number-ne1
returns-then-line_number-ne1 c = address_none _ _ _ c.line_number.ensures c.if-line_number-ne1.true

pub returns : goal.returns
returns c = address_some _ _ _ _ c.line_number.ensures c.if-line_number-ne1.false c.line_number-2.ensures
