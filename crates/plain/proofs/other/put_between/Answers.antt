-- Three texts of the same kind put one behind the other are one token, and the middle one is the file's text.
use Rattle.plain.proofs.Printing.{between_put}
use Rattle.plain.proofs.other.put_between.Goals as goal

pub returns : goal.returns
returns c = λ E s. between_put _ _ _ _ E _ _ _ _ _ _ s c.offset_of.ensures c.put-out.ensures c.put_part-out.ensures c.put.ensures
