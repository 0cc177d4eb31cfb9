-- The range has no byte exactly if its end, cut to the text's length, is at most its start.
use Rattle.sheet.proofs.Reading.{empty_is}
use Rattle.sheet.proofs.ranges.none_between.Goals as goal

pub returns : goal.returns
returns c = empty_is _ _ _ _ c.min.ensures
