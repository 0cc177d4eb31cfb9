-- The lowered indent and the steps up to the row's sum to the row's, too small to be cut off; a row less deep than its line keeps its own.
use Rattle.finish.proofs.Deepened.{deepened}
use Rattle.finish.proofs.rows.row_indent.Goals as goal

pub returns : goal.returns
returns c = deepened _ _ _ _ c.indent_of-deep.ensures c.if-deep-low.false c.raised.ensures
