-- Each clipped span lies inside the file and holds its part, so comparing the bytes of the two spans compares the two parts.
use Rattle.flags.proofs.Parts.{both_parts}
use Rattle.flags.proofs.spans.same_parts.Goals as goal

pub returns : goal.returns
returns c = both_parts _ _ _ _ _ _ _ c.clip-p.ensures c.clip-q.ensures _ c.same_text.ensures
