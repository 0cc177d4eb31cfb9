-- The items are the expressions and the values; both counts have 32 bits, so their sum fits into 64.
use Rattle.records.proofs.Laws.{both_items}
use mathlib.Core.Path.{◌∙◌}
use Rattle.records.proofs.owners.items_of.Goals as goal

pub returns : goal.returns
returns c = both_items _ _ _ _ (c.from.ensures ∙ c.expr_items.ensures) (c.from-2.ensures ∙ c.value_items.ensures)
