-- The chain asks of each of the n lines whether it is the label, and the first that is gives its name.
use Rattle.std.proofs.Common.{rules}
use borrow.Author.Tests.{tests}
use Rattle.definition.specs.Passes.{named}
use Rattle.sheet.specs.Buffers.{text_at, line_in}
use Rattle.sorts.proofs.Searches.{search_place}
use Rattle.sorts.proofs.Naming.{label_place}
use Rattle.sorts.proofs.labels.find_label.Goals as goal

pub returns : goal.returns
returns c = let a = c.args in
    let s = text_at a.tokens.now a.text.now a.p in
    label_place a.lines.now a.tokens.now a.text.now a.n s _
    (search_place _ _ (λ i. named s (line_in a.lines.now a.tokens.now a.text.now i)) 0 a.n c.find.ensures.ran (cc) (λ x b q k. search (rules, tests)))
