-- The definition's pointer is a token of kind 3 whose text is the made one, so the piece that is put is that token.
use Rattle.definition.specs.Render.{pointer}
use Rattle.pieces.proofs.put.put_pointer.Goals as goal

pub returns : goal.returns
unfolding pointer
returns c = c.put_made.ensures
