-- The end is cut to the text's length and the start to that end, so the slice is inside, and it has the bytes that the range has.
use Rattle.sheet.proofs.Reading.{least_le, range_is}
use lib.ListN.{length}
use native.Mathlib.Omega.{arith}
use Rattle.sheet.proofs.ranges.part.Goals as goal

pub slice_bounds-result-count : goal.slice_bounds-result-count
slice_bounds-result-count c = omega (arith, c.min-s.ensures, least_le c.args.from c.min-e.result)

pub slice_bounds-result-start : goal.slice_bounds-result-start
slice_bounds-result-start c = omega (arith, c.min-s.ensures, least_le c.args.from c.min-e.result)

pub slice_bounds-result-end : goal.slice_bounds-result-end
slice_bounds-result-end c = omega (arith, c.min-e.ensures, least_le c.args.to (length c.args.text.now))

pub returns : goal.returns
returns c = range_is c.args.text.now _ _ _ _ c.min-e.ensures c.min-s.ensures
