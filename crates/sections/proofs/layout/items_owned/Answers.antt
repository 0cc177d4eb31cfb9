use Rattle.std.proofs.Common.{rules}
use Rattle.definition.specs.Owners.{first_item, items}
use Rattle.sections.proofs.layout.items_owned.Goals as goal

pub returns : goal.returns
unfolding first_item
returns c = let e = c.add_up.ensures (items c.args.f.now) (λ i k q. search rules) in cc
