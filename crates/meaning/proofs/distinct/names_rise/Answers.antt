-- Every name but the last is compared with the next.
use mathlib.Core.Path.{ap, ◌∙◌}
use Prim.Native.Nat.{ℕ}
use Rattle.std.proofs.Common.{rules}
use borrow.Author.Tests.{tests}
use Rattle.definition.specs.Lists.{all_below}
use Rattle.records.proofs.Below.{all_upto}
use Rattle.meaning.proofs.Apart.{name_rises, names_rise}
use Rattle.meaning.proofs.distinct.names_rise.Goals as goal

pub returns : goal.returns
returns c =
    let p = name_rises c.args.f.now in
    all_upto p c.saturating_sub-steps.result c.all.ensures.ran (cc) (λ x b q k. search (rules, tests))
    ∙ ap (λ (m : ℕ). all_below m p) c.saturating_sub-steps.ensures ∙ names_rise _ _ c.size_of.ensures
