-- A text stands at its section's offset and its own start, so the part of the file that is put is the text.
use Rattle.render.proofs.Written.{text_put}
use Rattle.render.proofs.leaves.put_text.Goals as goal

pub returns : goal.returns
returns c = text_put _ _ _ _ _ _ _ c.offset_of.ensures c.put_part.ensures
