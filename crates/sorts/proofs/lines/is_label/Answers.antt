-- Any count but two is no label, nor is a first token that is no Symbol; of what is left, the second token against `:` decides.
use Rattle.sorts.proofs.Targets.{label_none, label_other, label_colon}
use borrow.Author.Tests.{ne_eqb}
use mathlib.Core.Path.{◌∙◌}
use native.Mathlib.Omega.{arith}
use Rattle.sorts.proofs.lines.is_label.Goals as goal

pub returns-then-saturating_sub-ne2 : goal.returns-then-saturating_sub-ne2
returns-then-saturating_sub-ne2 c = label_none _ _ _ _ (λ z. omega arith)

pub returns-then-kind_at-eq-SYMBOL : goal.returns-then-kind_at-eq-SYMBOL
returns-then-kind_at-eq-SYMBOL c = label_colon _ _ _ _ (omega arith) _ c.kind_at.ensures c.if-kind_at-eq-SYMBOL.true _ _ _ c.start_at.ensures c.end_at.ensures c.is_between.ensures

pub returns-else-kind_at-eq-SYMBOL : goal.returns-else-kind_at-eq-SYMBOL
returns-else-kind_at-eq-SYMBOL c = ne_eqb _ 4 c.if-kind_at-eq-SYMBOL.false ∙ label_other _ _ _ _ (omega arith) _ c.kind_at.ensures c.if-kind_at-eq-SYMBOL.false
