use Rattle.sections.proofs.Sections.{many_counted}
use Rattle.std.proofs.Common.{rules}
use Rattle.std.proofs.lemmas.Iterator.{YieldsList-from_range}
use Rattle.std.proofs.lemmas.Iterator.Search.{any_from_yields_List}
use borrow.Author.Tests.{tests}
use Prim.Native.Nat.{ℕ}
use mathlib.Core.Path.{◌∙◌}
use lib.Dec.{ltb}
use native.Mathlib.Omega.{arith}
use Rattle.definition.specs.Contents.{size}
use Rattle.records.specs.Editions.{limit_at}
use Rattle.sections.proofs.limits.too_many.Goals as goal

pub returns : goal.returns
returns c =
    any_from_yields_List (λ (s : ℕ). ltb (limit_at c.args.e s) (size c.args.f.now s)) _ _ _ c.any.ensures.ran
    (YieldsList-from_range 0 c.args.e.sections c.args.e.sections (cc) (omega arith)) (λ x b q k. search (rules, tests))
    ∙ many_counted c.args.e c.args.f.now
