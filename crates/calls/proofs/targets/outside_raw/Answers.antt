-- A raw address begins with a star; for a name its text decides.
use borrow.Author.Tests.{tests}
use Rattle.std.proofs.Common.{rules}
use Rattle.calls.proofs.Naming.{raw_kept}
use Rattle.calls.proofs.targets.outside_raw.Goals as goal

pub returns : goal.returns
returns c = raw_kept _ _ _ _ _ c.outside_name.ensures c.is_none_or.ensures (λ i k. search (rules, tests))
