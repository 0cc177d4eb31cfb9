use Rattle.digits.proofs.Numerals.{remainder_less, fill_turn, fill_end}
use native.Mathlib.Omega.{arith}
use mathlib.Core.Path.{sym, ◌∙◌}
use Rattle.digits.proofs.fill.Goals as goal

pub digit-requires : goal.digit-requires
digit-requires c = remainder_less _ _ c.base-b.ensures.1 c.base-b.ensures.2

pub loop-i-preserved : goal.loop-i-preserved
loop-i-preserved c = c.loop-i.invariant ∙ fill_turn _ _ _ _ _ _ c.loop-i-test.true c.digit.ensures

pub returns : goal.returns
returns c = sym (c.loop-i.invariant ∙ fill_end _ _ _ _ _ (omega arith)) ∙ rw c.base-b.ensures.0
