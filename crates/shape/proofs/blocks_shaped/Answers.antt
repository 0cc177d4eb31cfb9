use Rattle.std.proofs.Common.{rules}
use borrow.Author.Tests.{tests}
use Rattle.definition.specs.Shape.{block_shaped}
use Rattle.records.proofs.Below.{all_upto}
use Rattle.shape.proofs.blocks_shaped.Goals as goal

pub returns : goal.returns
returns c =
    let n = c.size_of.ensures in
    rw (← n) (all_upto (block_shaped c.args.f.now) c.size_of.result c.all.ensures.ran (cc) (λ x b q k. search (rules, tests)))
