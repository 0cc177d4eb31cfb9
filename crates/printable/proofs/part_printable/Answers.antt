-- The bytes that are looked at are those of the part.
use Rattle.std.proofs.Common.{rules}
use Rattle.std.proofs.lemmas.Iterator.{YieldsList-from_slice, YieldsList-from_take}
use Rattle.std.proofs.lemmas.Iterator.Adapters.{YieldsList-from_skip}
use Rattle.std.proofs.lemmas.Iterator.Search.{all_from_yields_List}
use borrow.Author.Tests.{tests}
use mathlib.Core.Path.{◌∙◌}
use Rattle.definition.specs.References.{printable}
use Rattle.definition.specs.Words.{part}
use Rattle.printable.proofs.Texts.{all_listed}
use Rattle.printable.proofs.part_printable.Goals as goal

pub returns : goal.returns
unfolding part
returns c =
    all_from_yields_List printable _ _ _ c.all.ensures.ran
    (YieldsList-from_take c.args.n (YieldsList-from_skip c.args.start (YieldsList-from_slice c.args.f.now cc) (cc)) (cc)) (λ x b q k. search (rules, tests))
    ∙ all_listed printable _
