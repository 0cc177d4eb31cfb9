-- The derived equality compares registers and then versions, as the definition does.
use Rattle.definition.specs.Values.{eqv}
use Rattle.defined.proofs.value.same_value.Goals as goal

pub returns : goal.returns
unfolding eqv
returns c = c.eq.ensures
