-- Words 0 and 1 of the record are the register and the version of the value that the definition names.
use mathlib.Core.Path.{ap₂}
use Rattle.definition.specs.Values.{value}
use Rattle.definition.specs.Meaning.{value_at}
use Rattle.defined.proofs.value.value_in.Goals as goal

pub returns : goal.returns
unfolding value_at
returns c = ap₂ value c.field.ensures c.field-2.ensures
