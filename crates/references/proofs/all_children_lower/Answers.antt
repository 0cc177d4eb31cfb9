use mathlib.Core.Path.{ap, ◌∙◌}
use Prim.Native.Nat.{ℕ}
use Rattle.std.proofs.Common.{rules}
use borrow.Author.Tests.{tests}
use Rattle.definition.specs.Lists.{all_below}
use Rattle.definition.specs.References.{children_lower}
use Rattle.records.proofs.Below.{all_upto}
use Rattle.references.proofs.all_children_lower.Goals as goal

pub returns : goal.returns
returns c = all_upto (children_lower c.args.f.now) c.size_of.result c.all.ensures.ran (cc) (λ x b q k. search (rules, tests)) ∙ ap (λ (m : ℕ). all_below m (children_lower c.args.f.now)) c.size_of.ensures
