-- Words 2 and 3 of the name are its text's start in the section and its length, so that part of the section is the name.
use Rattle.text.proofs.Lookups.{name_part}
use Rattle.leaf.proofs.Leaves.{leaf_as}
use Rattle.text.proofs.names.name_text.Goals as goal

pub returns : goal.returns
returns c = leaf_as c.text_part.ensures (name_part _ _ _ _ _ c.name_word-start.ensures c.name_word-n.ensures)
