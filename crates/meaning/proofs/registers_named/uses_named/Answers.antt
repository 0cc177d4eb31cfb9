-- Every expression is tested, as the definition tests it.
use mathlib.Core.Path.{ap, ◌∙◌}
use Prim.Native.Nat.{ℕ}
use Rattle.std.proofs.Common.{rules}
use borrow.Author.Tests.{tests}
use Rattle.definition.specs.Lists.{all_below}
use Rattle.definition.specs.Meaning.{use_register}
use Rattle.records.proofs.Below.{all_upto}
use Rattle.meaning.proofs.registers_named.uses_named.Goals as goal

pub returns : goal.returns
returns c =
    let p = use_register c.args.f.now in
    all_upto p c.size_of.result c.all.ensures.ran (cc) (λ x b q k. search (rules, tests)) ∙ ap (λ (m : ℕ). all_below m p) c.size_of.ensures
