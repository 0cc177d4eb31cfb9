use Rattle.std.proofs.Common.{rules}
use Rattle.definition.specs.Owners.{first_phi, block_phis}
use Rattle.sections.proofs.layout.phis_owned.Goals as goal

pub returns : goal.returns
unfolding first_phi
returns c = let e = c.add_up.ensures (block_phis c.args.f.now) (λ i k q. search rules) in cc
