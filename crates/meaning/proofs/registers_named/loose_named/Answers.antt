-- Every statement is tested, and their lists stand one behind the other.
use mathlib.Core.Path.{sym, ◌∙◌}
use Rattle.std.proofs.Common.{rules}
use borrow.Author.Tests.{tests}
use Rattle.defined.proofs.Statements.{all_statements}
use Rattle.meaning.proofs.RegistersNamed.{loose_named, loose_named_lem}
use Rattle.meaning.proofs.registers_named.loose_named.Goals as goal

pub returns : goal.returns
returns c = all_statements c.all.new.self loose_named c.args.f.now c.all.ensures.ran c.of.ensures (λ x b q k. search (rules, tests)) ∙ sym (loose_named_lem _)
