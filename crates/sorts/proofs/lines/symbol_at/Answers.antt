-- The chain asks of each place from a up to e whether a Symbol stands there, as the definition does.
use Rattle.std.proofs.Common.{rules}
use borrow.Author.Tests.{tests}
use Rattle.sorts.proofs.Searches.{search_place}
use Rattle.sorts.specs.Places.{symbol_at}
use Rattle.sorts.proofs.lines.symbol_at.Goals as goal

pub returns : goal.returns
unfolding symbol_at
returns c = let a = c.args in search_place _ _ (symbol_at a.tokens.now) a.a a.e c.find.ensures.ran (cc) (λ x b q k. search (rules, tests))
