-- Fewer bytes than the word has cannot begin with it; else the part begins with it exactly if the file has it there.
use Rattle.calls.proofs.Trims.{begins_small, begins_inside}
use mathlib.Core.Path.{◌∙◌}
use borrow.Author.Tests.{lt-leb}
use Rattle.calls.proofs.parts.begins_part.Goals as goal

pub returns-else-w-n : goal.returns-else-w-n
returns-else-w-n c = lt-leb _ _ c.if-w-n.false ∙ begins_small _ _ _ _ c.if-w-n.false

pub returns-then-w-n : goal.returns-then-w-n
returns-then-w-n c = begins_inside _ _ _ _ _ c.if-w-n.true c.begins_at.ensures
