-- Each text stands at the section's offset and its own start, so comparing those parts of the file compares the texts.
use Rattle.flags.proofs.Parts.{both_texts}
use Rattle.flags.proofs.same.same_texts.Goals as goal

pub returns : goal.returns
returns c = let a = c.args in both_texts a.f.now a.t a.a a.b _ _ c.offset_of-o.ensures c.same_parts.ensures
