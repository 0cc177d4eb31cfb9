-- The chain asks of each row from i up to j whether it is too deep, as the definition does.
use Rattle.std.proofs.Common.{rules}
use borrow.Author.Tests.{tests}
use Rattle.outline.proofs.Along.{some_range}
use Rattle.outline.specs.Forming.{deep_in}
use Rattle.outline.specs.Tests.{too_deep}
use Rattle.outline.proofs.forming.deep_in.Goals as goal

pub returns : goal.returns
unfolding deep_in
returns c = some_range too_deep c.args.rows.now c.args.i c.args.j c.any.ensures.ran (cc) (λ x b q k. search (rules, tests))
