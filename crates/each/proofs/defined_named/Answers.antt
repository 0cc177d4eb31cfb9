-- Nothing names no register; of one value, its own register is what the list is tested for.
use Rattle.std.proofs.Common.{rules}
use borrow.Author.Tests.{tests}
use Rattle.defined.proofs.Tested.{defined_all}
use Rattle.each.specs.Rules.{named}
use Rattle.each.proofs.defined_named.Goals as goal

pub returns : goal.returns
returns c = defined_all named c.args.d c.is_none_or.ensures (λ v q. search (rules, tests))
