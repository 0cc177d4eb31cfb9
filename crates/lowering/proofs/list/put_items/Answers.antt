use Rattle.lowering.proofs.Commas.{items_start, items_turn, items_end}
use mathlib.Core.Path.{refl, ◌∙◌}
use native.Mathlib.Omega.{arith}
use Rattle.lowering.proofs.list.put_items.Goals as goal

pub loop-k-init : goal.loop-k-init
loop-k-init c = ((λ E s. items_start E _ _ _ _), refl, refl)

pub overflow_add-first : goal.overflow_add-first
overflow_add-first c = omega (arith, c.requires, c.loop-k-test.true)

pub loop-k-preserved : goal.loop-k-preserved
loop-k-preserved c = let inv = c.loop-k.invariant in ((λ E s. inv.0 E s ∙ items_turn E _ _ _ _ _ _ _ c.loop-k-test.true c.item_word-x.ensures (c.put_arg-out.ensures E s)), c.put_arg-out.auto.tokens ∙ inv.1, c.put_arg-out.auto.text ∙ inv.2)

pub returns : goal.returns
returns c = λ E s. items_end E _ _ _ _ _ _ c.loop-k-test.false (c.loop-k.invariant.0 E s)
