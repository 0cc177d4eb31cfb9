-- The phis come first: where one fails the Assigns change nothing, else they go on with the table that the phis left.
use mathlib.Core.Path.{ap, ◌∙◌}
use mathlib.Core.Bool.{not}
use Rattle.slots.specs.Slots.{slots}
use Rattle.slots.proofs.Taking.{strict_ends, strict_taken}
use Rattle.slots.proofs.take_strict.Goals as goal

pub returns-then-take_phis : goal.returns-then-take_phis
returns-then-take_phis c = strict_taken _ _ _ _ c.take_phis.ensures _ (ap not c.if-take_phis.true) c.take_assigns.ensures

pub returns-else-take_phis : goal.returns-else-take_phis
returns-else-take_phis c = ap (slots c.take_phis.new.table) c.if-take_phis.false ∙ strict_ends _ _ _ _ c.take_phis.ensures (ap not c.if-take_phis.false)
