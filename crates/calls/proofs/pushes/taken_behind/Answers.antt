-- The chain tests the statements behind i in turn; at the end of the block there is none.
use mathlib.Core.Path.{refl, ◌∙◌}
use Prim.Native.Nat.{◌+◌, ◌-◌}
use borrow.Author.Tests.{tests, le-ltb}
use Rattle.std.proofs.Common.{rules}
use Rattle.std.proofs.lemmas.Iterator.{YieldsList-from_range}
use Rattle.std.proofs.lemmas.Iterator.Search.{any_from_yields_List}
use Rattle.calls.specs.Numbered.{takes_at}
use Rattle.calls.proofs.Waits.{taken_is, taken_chain, taken_nowhere}
use Rattle.calls.proofs.pushes.taken_behind.Goals as goal

pub returns-else-i-end : goal.returns-else-i-end
returns-else-i-end c = λ E. taken_is E _ _ _ _ (le-ltb _ _ c.if-i-end.false ∙ taken_nowhere _ _ _ c.if-i-end.false)

pub returns-then-i-end : goal.returns-then-i-end
returns-then-i-end c = let a = c.args in λ E. taken_is E _ _ _ _
    (any_from_yields_List (takes_at a.f.now) _ _ _ c.any.ensures.ran (YieldsList-from_range (a.i + 1) a.end (a.end - (a.i + 1)) refl refl) (λ x b q k. search (rules, tests))
    ∙ taken_chain (takes_at a.f.now) (a.i + 1) (a.end - (a.i + 1)))
