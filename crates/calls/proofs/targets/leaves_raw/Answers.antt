-- A block's label does not begin with a star; where no block begins, the target is what is outside, and its text decides.
use Rattle.calls.proofs.Naming.{raw_label, raw_outside}
use mathlib.Core.Path.{ap, ◌∙◌}
use mathlib.Core.Bool.{not}
use Rattle.calls.proofs.targets.leaves_raw.Goals as goal

pub returns-else-not-is_block : goal.returns-else-not-is_block
returns-else-not-is_block c = λ E s. ap not c.if-not-is_block.false ∙ raw_label _ _ _ c.is_block.ensures E c.if-not-is_block.false

pub returns-then-not-is_block : goal.returns-then-not-is_block
returns-then-not-is_block c = λ E s. raw_outside _ _ _ c.is_block.ensures E _ _ s c.if-not-is_block.true c.outside_raw.ensures
