-- The bytes of the range that are b, counted.
use Rattle.std.proofs.Common.{rules}
use borrow.Author.Tests.{tests}
use Rattle.comparisons.proofs.Comparing.{count_is}
use lib.Dec.{eqb}
use mathlib.Core.Path.{refl, ap, ◌∙◌}
use Rattle.definition.specs.Lists.{count}
use Rattle.std.proofs.lemmas.Iterator.{YieldsList-from_slice}
use Rattle.std.proofs.lemmas.Iterator.Consumers.{YieldsList-from_filter, count_from_yields_List}
use Rattle.comparisons.proofs.signs.count_between.Goals as goal

pub returns : goal.returns
returns c =
    count_from_yields_List c.filter.result _ c.count.ensures.ran
    (YieldsList-from_filter _ (eqb c.args.b) (YieldsList-from_slice c.part.result.now (cc)) c.filter.ensures.closure (λ x b q k. search (rules, tests)))
    ∙ count_is (eqb c.args.b) (eqb c.args.b) (λ x. refl) c.part.result.now ∙ ap (count (eqb c.args.b)) c.part.ensures
