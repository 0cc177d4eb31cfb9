-- The chain asks of each block in turn whether it begins at a, as the definition's search does.
use Rattle.std.proofs.Common.{ℕ, nat_eq, arith, rules}
use borrow.Author.Tests.{tests}
use Rattle.std.proofs.lemmas.Iterator.{YieldsList-from_range}
use Rattle.std.proofs.lemmas.Iterator.Search.{find_from_yields_List}
use Rattle.definition.specs.Contents.{block_long}
use Rattle.labels.proofs.Finding.{block_found}
use Rattle.labels.proofs.block_of.Goals as goal

pub returns : goal.returns
returns c =
    block_found _ _ _ _ c.size_of.ensures
    (find_from_yields_List (λ (i : ℕ). nat_eq (block_long c.args.f.now i 0) c.args.a) _ _ _ c.find.ensures.ran (YieldsList-from_range 0 c.size_of.result c.size_of.result (cc) (omega arith)) (λ x b q k. search (rules, tests)))
