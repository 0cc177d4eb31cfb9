-- A token's text is the range from its start to its end, so comparing the two ranges compares the two texts.
use mathlib.Core.Path.{ap, ◌∙◌}
use Rattle.definition.specs.Texts.{same}
use Rattle.sorts.proofs.Naming.{texts_same}
use Rattle.sorts.proofs.labels.same_name.Goals as goal

pub returns : goal.returns
returns c = texts_same _ _ _ _ _ _ _ _ _ c.start_at-2.ensures c.end_at-2.ensures c.start_at.ensures c.end_at.ensures (c.is_between.ensures ∙ ap (same _) c.part-name.ensures)
