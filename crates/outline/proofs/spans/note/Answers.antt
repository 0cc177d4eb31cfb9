-- Cleared, the table is all zeros, and the rows noted into zeros are the spans anew.
use mathlib.Core.Path.{ap, ◌∙◌}
use Rattle.outline.specs.Spans.{note_from, spans_of}
use Rattle.outline.proofs.spans.note.Goals as goal

pub returns : goal.returns
unfolding spans_of
returns c = c.note_rows.ensures ∙ ap (note_from c.args.rows.now 0 c.args.n) (c.fill.ensures.after (λ y e. e))
