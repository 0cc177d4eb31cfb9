use Rattle.std.proofs.Common.{rules}
use borrow.Author.Tests.{tests}
use Rattle.definition.specs.References.{stmt_text}
use Rattle.records.proofs.Below.{all_upto}
use Rattle.records.specs.Editions.{edition_of}
use Rattle.printable.proofs.stmts_inside.Goals as goal

pub returns : goal.returns
returns c =
    let n = c.size_of.ensures in
    rw (← n) (all_upto (stmt_text (edition_of c.args.e) c.args.f.now) c.size_of.result c.all.ensures.ran (cc) (λ x b q k. search (rules, tests)))
