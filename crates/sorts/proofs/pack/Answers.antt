-- Each field is cut to its width, so no sum leaves 64 bits, and the sum is the definition's, term by term.
use Rattle.sorts.proofs.RowsMade.{packed_is}
use Rattle.sorts.proofs.pack.Goals as goal

pub returns : goal.returns
returns c = packed_is _ _ _ _
