-- An input has its phi's register, and inputs' places begin where the table says.
use Rattle.naming.proofs.Walking.{input_spot_lem}
use Rattle.naming.proofs.Small.{inputs_small}
use Rattle.places.specs.declared.Places.{Places}
use native.Mathlib.Omega.{arith}
use mathlib.Core.Path.{ap}
use mathlib.Core.List.{[]}
use Rattle.naming.proofs.runs.input_mention.Goals as goal

pub overflow_add-result : goal.overflow_add-result
overflow_add-result c = omega (arith, inputs_small c.args.of.now.f.now c.args.of.now.bytes, ap (λ (p : Places). p.inputs) c.args.of.now.laid.are)

pub returns : goal.returns
returns c = input_spot_lem _ [] _ _ c.args.of.now.laid.are _ _ _ c.phi_word.ensures c.input_at.ensures
