-- Where nothing is assigned, there is nothing to test; of one value, its own test is that of the list.
use mathlib.Core.Path.{ap, ◌∙◌}
use Rattle.std.proofs.Common.{rules}
use borrow.Author.Tests.{tests}
use Rattle.definition.specs.Lists.{all}
use Rattle.defined.specs.Defined.{lone}
use Rattle.defined.proofs.Tested.{defined_all}
use Rattle.once.proofs.assigned_lone.Goals as goal

pub returns : goal.returns
returns c = defined_all (lone c.args.f.now) c.assigned_by.result c.is_none_or.ensures (λ v q. search (rules, tests)) ∙ ap (all (lone c.args.f.now)) c.assigned_by.ensures
