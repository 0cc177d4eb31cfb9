-- A line without tokens begins with nothing; else its first token is the one at place a, which is tested.
use Rattle.sorts.proofs.Targets.{if_none, if_first}
use borrow.Author.Tests.{le-ltb}
use mathlib.Core.Path.{◌∙◌}
use Rattle.sorts.proofs.lines.is_if.Goals as goal

pub returns-then-a-e : goal.returns-then-a-e
returns-then-a-e c = if_first _ _ _ _ c.if-a-e.true _ _ c.token_is.ensures

pub returns-else-a-e : goal.returns-else-a-e
returns-else-a-e c = le-ltb _ _ c.if-a-e.false ∙ if_none _ _ _ _ c.if-a-e.false _
