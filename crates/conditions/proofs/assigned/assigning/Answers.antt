-- One of the statements assigns the value, so the search ends at one, and it is alike.
use native.Mathlib.Omega.{arith}
use mathlib.Core.Bool.{true, false}
use mathlib.Core.Path.{◌≡◌}
use Rattle.std.proofs.Common.{rules}
use borrow.Author.Tests.{tests}
use Rattle.std.proofs.lemmas.Iterator.{first_from_Range}
use Rattle.records.proofs.Items.{size_small}
use Rattle.conditions.specs.Assigns.{assigns_as}
use Rattle.conditions.proofs.Assigning.{sought}
use Rattle.conditions.proofs.assigned.assigning.Goals as goal

pub overflow_add-first : goal.overflow_add-first
overflow_add-first c = omega (arith, size_small c.args.f.now c.type_inv.f 4, c.requires.count_bound)

pub returns : goal.returns
returns c =
    let found = first_from_Range _ _ _ c.find.result (λ k. assigns_as c.args.f.now c.args.i k ≡ true) (λ k. assigns_as c.args.f.now c.args.i k ≡ false)
    c.find.ensures.ran (λ x q h. search (rules, tests)) (λ x q h. search (rules, tests)) in
    rw c.unwrap_or.ensures (sought _ _ _ _ _ c.requires.count_value c.requires.count_bound found)
