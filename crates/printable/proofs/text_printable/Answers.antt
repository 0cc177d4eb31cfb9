-- The text is the last section from its offset on, as long as its size: the part of the file that is looked through.
use Rattle.printable.proofs.Texts.{text_part}
use Rattle.printable.proofs.text_printable.Goals as goal

pub returns : goal.returns
returns c = text_part _ _ _ _ _ _ c.text-s.ensures c.offset_of.ensures c.size_of.ensures c.part_printable.ensures
