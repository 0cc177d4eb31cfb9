-- A register is preserved where it is among the eight of the list, which is the definition's.
use Rattle.definition.specs.Registers.{callee_saved}
use Rattle.text.proofs.Lookups.{among_is}
use mathlib.Core.Path.{◌∙◌}
use Rattle.text.proofs.registers.Register.callee_saved.Goals as goal

pub returns : goal.returns
unfolding callee_saved
returns c = c.contains.ensures.value ∙ among_is _ _
