-- A line that is no label has no name; a label's name is the text of its first token, which is compared with the text at place p.
use Rattle.sorts.proofs.Naming.{line_other, line_named}
use mathlib.Core.Path.{◌∙◌}
use Rattle.sorts.proofs.labels.is_named.Goals as goal

pub returns-then-is_label : goal.returns-then-is_label
returns-then-is_label c = line_named _ _ _ _ _ _ c.first_of-a.ensures c.last_of.ensures _ _ c.is_label.ensures c.if-is_label.true _ c.same_name.ensures

pub returns-else-is_label : goal.returns-else-is_label
returns-else-is_label c = c.if-is_label.false ∙ line_other _ _ _ _ _ _ c.first_of-a.ensures c.last_of.ensures _ _ c.is_label.ensures c.if-is_label.false
