-- Without a name, or with a label for one, it is the raw address; any other name is the text.
use borrow.Author.Tests.{tests}
use Rattle.std.proofs.Common.{rules}
use Rattle.calls.proofs.Naming.{name_kept}
use Rattle.calls.proofs.targets.outside_name.Goals as goal

pub returns : goal.returns
returns c = name_kept _ _ _ _ _ c.name_for.ensures c.filter.ensures (λ i b k. search (rules, tests))
