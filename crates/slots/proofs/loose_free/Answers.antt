-- Every statement is tested, and their lists stand one behind the other.
use mathlib.Core.Path.{sym, ◌∙◌}
use Rattle.std.proofs.Common.{rules}
use borrow.Author.Tests.{tests}
use Rattle.slots.specs.Slots.{free}
use Rattle.defined.proofs.Tested.{loose_at, loose_all}
use Rattle.defined.proofs.Statements.{all_statements}
use Rattle.slots.proofs.loose_free.Goals as goal

pub returns : goal.returns
returns c =
    let p = free c.args.table.now in
    all_statements c.all.new.self (λ f. loose_at f p) c.args.f.now c.all.ensures.ran c.of.ensures (λ x b q k. search (rules, tests)) ∙ sym (loose_all _ p)
