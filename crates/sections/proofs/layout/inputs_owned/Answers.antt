use Rattle.std.proofs.Common.{rules}
use Rattle.definition.specs.Owners.{first_input, phi_inputs}
use Rattle.sections.proofs.layout.inputs_owned.Goals as goal

pub returns : goal.returns
unfolding first_input
returns c = let e = c.add_up.ensures (phi_inputs c.args.f.now) (λ i k q. search rules) in cc
