use Rattle.words.proofs.Laws.{word_read}
use mathlib.Core.Path.{◌∙◌}
use Rattle.words.proofs.four.Goals as goal

pub returns : goal.returns
returns c = c.from_le_bytes.ensures ∙ word_read c.args.f.now c.args.i c.requires
