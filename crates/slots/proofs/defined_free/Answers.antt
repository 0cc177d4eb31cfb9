-- Nothing needs no slot; of one value, its own slot is what the list is tested for.
use Rattle.std.proofs.Common.{rules}
use borrow.Author.Tests.{tests}
use Rattle.slots.specs.Slots.{free}
use Rattle.defined.proofs.Tested.{defined_all}
use Rattle.slots.proofs.defined_free.Goals as goal

pub returns : goal.returns
returns c = defined_all (free c.args.table.now) c.args.d c.is_none_or.ensures (λ v q. search (rules, tests))
