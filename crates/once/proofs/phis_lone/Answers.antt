-- What is tested of every phi is the test of the list of their values.
use mathlib.Core.Path.{sym, ap, ◌∙◌}
use Prim.Native.Nat.{ℕ}
use Rattle.std.proofs.Common.{rules}
use borrow.Author.Tests.{tests}
use Rattle.definition.specs.Lists.{all_below}
use Rattle.defined.proofs.Defining.{phi_lone, phis_lone}
use Rattle.records.proofs.Below.{all_upto}
use Rattle.once.proofs.phis_lone.Goals as goal

pub returns : goal.returns
returns c =
    let p = phi_lone c.args.f.now in
    all_upto p c.size_of.result c.all.ensures.ran (cc) (λ x b q k. search (rules, tests)) ∙ ap (λ (m : ℕ). all_below m p) c.size_of.ensures ∙ sym (phis_lone _)
