-- Word k of section s is by definition the word at byte 16 + 8 s + 4 k; s and k have 32 bits, so that byte number does not overflow.
use Rattle.definition.specs.Contents.{contents_word}
use Rattle.records.proofs.contents.contents_word.Goals as goal

pub returns : goal.returns
unfolding contents_word
returns c = c.word_at.ensures
