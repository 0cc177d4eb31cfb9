-- Equal values have equal registers and versions, so these are words 0 and 1; the dead mark is word 2 against 1, the inputs a count.
use Rattle.ssa.proofs.Laws.{phi_is}
use Rattle.ssa.proofs.block.phi_at.Goals as goal

pub returns : goal.returns
returns c = phi_is _ _ _ _ _ c.phi_value.ensures c.phi_word.ensures c.phi_inputs.ensures
