-- The signs stand in the definition's order, and the first of them whose text the range contains is the definition's.
use Rattle.std.proofs.Common.{rules}
use borrow.Author.Tests.{tests}
use mathlib.Core.Path.{◌∙◌}
use Rattle.definition.specs.Texts.{contains}
use Rattle.sheet.specs.Ranges.{between}
use Rattle.comparisons.specs.Signs.{text_of}
use Rattle.comparisons.proofs.Comparing.{sign_first, signs, same_option}
use Rattle.std.proofs.lemmas.Iterator.{YieldsList-from_slice}
use Rattle.std.proofs.lemmas.Iterator.Consumers.{YieldsList-from_copied}
use Rattle.std.proofs.lemmas.Iterator.Search.{find_from_yields_List}
use Rattle.comparisons.proofs.signs.first_sign.Goals as goal

pub returns : goal.returns
returns c = let a = c.args in
    sign_first _ _ (same_option _ ∙ find_from_yields_List (λ k. contains (text_of k) (between a.text.now a.from a.to)) _ _ c.find.result c.find.ensures.ran
    (YieldsList-from_copied (YieldsList-from_slice signs (cc))) (λ x b q k. search (rules, tests)))
