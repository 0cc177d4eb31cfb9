-- The chain asks of each row from i up to j whether it is a label aimed at from outside, as the definition does.
use Rattle.std.proofs.Common.{rules}
use borrow.Author.Tests.{tests}
use Rattle.outline.proofs.Along.{some_range}
use Rattle.outline.specs.Spans.{reached_in, aimed_out}
use Rattle.outline.proofs.spans.reached.Goals as goal

pub returns : goal.returns
unfolding reached_in
returns c = let a = c.args in some_range (aimed_out a.spans.now a.a a.b) a.rows.now a.i a.j c.any.ensures.ran (cc) (λ x b q k. search (rules, tests))
