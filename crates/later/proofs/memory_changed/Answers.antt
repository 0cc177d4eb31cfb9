-- The chain asks of each statement between whether it changes memory, as the definition does.
use Rattle.std.proofs.Common.{◌-◌, ◌∙◌, refl, rules}
use borrow.Author.Tests.{tests}
use Rattle.std.proofs.lemmas.Iterator.{YieldsList-from_range}
use Rattle.std.proofs.lemmas.Iterator.Search.{any_from_yields_List}
use Rattle.later.specs.Search.{changes, changed}
use Rattle.later.proofs.Changing.{any_listed}
use Rattle.later.proofs.memory_changed.Goals as goal

pub returns : goal.returns
unfolding changed
returns c =
    any_from_yields_List (changes c.args.f.now) _ _ _ c.any.ensures.ran (YieldsList-from_range c.args.from c.args.to (c.args.to - c.args.from) (cc) refl) (λ x b q k. search (rules, tests))
    ∙ any_listed (changes c.args.f.now) c.args.from (c.args.to - c.args.from)
