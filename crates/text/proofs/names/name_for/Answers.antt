-- The search tests the name of each number in turn, so what it finds is the first name's index.
use lib.Dec.{eqb}
use mathlib.Core.Path.{refl, ◌∙◌}
use borrow.Author.Tests.{tests}
use Rattle.std.proofs.Common.{rules}
use Rattle.definition.specs.Contents.{name_long}
use Rattle.text.proofs.Lookups.{find_upto, first_is}
use Rattle.text.proofs.names.name_for.Goals as goal

pub returns : goal.returns
returns c = let f = c.args.f.now in
    find_upto _ (λ i. eqb (name_long f i 0) c.args.a) c.size_of.result c.find.ensures.ran refl (λ x b q k. search (rules, tests))
    ∙ first_is f c.args.a _ c.size_of.ensures
