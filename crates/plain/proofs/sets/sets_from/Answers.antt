use Rattle.plain.proofs.Searching.{sets_turn, sets_done}
use mathlib.Core.Path.{refl, ◌∙◌}
use Rattle.plain.proofs.sets.sets_from.Goals as goal

pub loop-k-init : goal.loop-k-init
loop-k-init c = refl

pub loop-k-preserved : goal.loop-k-preserved
loop-k-preserved c = c.loop-k.invariant ∙ sets_turn _ _ _ _ _ _ _ _ _ c.loop-k-test.true c.code_at-code.ensures c.item_word.ensures c.with_name-s.ensures

pub returns : goal.returns
returns c = sets_done _ _ _ _ _ _ _ c.loop-k-test.false c.loop-k.invariant
