-- By the order of the keys: the greater of the two gets a link to the lesser, and of equal ones neither does.
use mathlib.Core.Path.{sym, ◌∙◌}
use Rattle.unions.proofs.Labels.{link_down, link_up, link_none}
use Rattle.unions.proofs.link.Goals as goal

pub returns-then-less : goal.returns-then-less
returns-then-less c = link_down _ _ _ _ _ (sym c.less.ensures ∙ c.if-less.true) c.put.ensures

pub returns-then-less-2 : goal.returns-then-less-2
returns-then-less-2 c = link_up _ _ _ _ _ (sym c.less.ensures ∙ c.if-less.false) (sym c.less-2.ensures ∙ c.if-less-2.true) c.put-then-less-2.ensures

pub returns-else-less-2 : goal.returns-else-less-2
returns-else-less-2 c = link_none _ _ _ _ (sym c.less.ensures ∙ c.if-less.false) (sym c.less-2.ensures ∙ c.if-less-2.false)
