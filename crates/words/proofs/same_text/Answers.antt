-- Of one length, each byte of one stands beside one of the other; texts of two lengths are not the same.
use Rattle.words.proofs.Laws.{alike, same_zip, same_length}
use Rattle.std.proofs.Common.{rules}
use Rattle.std.proofs.lemmas.Iterator.{YieldsList-from_slice, YieldsList-from_zip}
use Rattle.std.proofs.lemmas.Iterator.Search.{all_from_yields_List}
use borrow.Author.Tests.{tests, ne_eqb}
use mathlib.Core.Path.{◌≡◌, ◌∙◌}
use lib.ListN.{length}
use native.Mathlib.Omega.{arith}
use Rattle.words.proofs.same_text.Goals as goal

pub returns-then-s-t : goal.returns-then-s-t
returns-then-s-t c =
    all_from_yields_List alike c.all.new.self _ _ c.all.ensures.ran
    (YieldsList-from_zip (YieldsList-from_slice c.args.s.now cc) (YieldsList-from_slice c.args.t.now cc)) (λ x b q k. search (rules, tests))
    ∙ same_zip c.args.s.now c.args.t.now (omega arith)

pub returns-else-s-t : goal.returns-else-s-t
returns-else-s-t c = let apart : length c.args.s.now ≡ length c.args.t.now → ⊥ = λ e. omega arith in
    ne_eqb _ _ apart ∙ same_length c.args.s.now c.args.t.now apart
