-- What is tested of every record is the test of the list of what they name.
use mathlib.Core.Path.{sym, ap, ◌∙◌}
use Prim.Native.Nat.{ℕ}
use Rattle.std.proofs.Common.{rules}
use borrow.Author.Tests.{tests}
use Rattle.definition.specs.Lists.{all_below}
use Rattle.meaning.proofs.RegistersNamed.{assign_named, assigns_named}
use Rattle.records.proofs.Below.{all_upto}
use Rattle.meaning.proofs.registers_named.assigns_named.Goals as goal

pub returns : goal.returns
returns c =
    let p = assign_named c.args.f.now in
    all_upto p c.size_of.result c.all.ensures.ran (cc) (λ x b q k. search (rules, tests)) ∙ ap (λ (m : ℕ). all_below m p) c.size_of.ensures ∙ sym (assigns_named _)
