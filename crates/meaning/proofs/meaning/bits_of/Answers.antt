-- The bits are by definition the word at byte 4.
use Rattle.meaning.proofs.Opening.{bits_are}
use Rattle.meaning.proofs.meaning.bits_of.Goals as goal

pub returns : goal.returns
returns c = bits_are _ _ c.word_at.ensures
