use native.Mathlib.Omega.{arith}
use mathlib.Core.Path.{refl, sym, ◌∙◌}
use Rattle.lower.proofs.Standing.{stands_first}
use Rattle.lower.proofs.Whole.{blocks_start, blocks_turn, blocks_end}
use Rattle.lower.proofs.lower.Goals as goal

pub loop-b-init : goal.loop-b-init
loop-b-init c = ((λ E s. blocks_start E _ _ _ _ _ c.start.ensures), stands_first _ _, c.size_of-n.ensures, refl, refl, refl)

pub lower_block-w-requires : goal.lower_block-w-requires
lower_block-w-requires c = let inv = c.loop-b.invariant in record { block_bound = (omega (arith, c.loop-b-test.true, inv.2), inv.1) }

pub loop-b-preserved : goal.loop-b-preserved
loop-b-preserved c = let inv = c.loop-b.invariant in ((λ E s. inv.0 E s ∙ blocks_turn E _ _ _ inv.2 _ _ c.loop-b-test.true (c.lower_block-w.ensures.1 E s)), c.lower_block-w.ensures.0, inv.2, c.lower_block-w.auto.lines ∙ inv.3, c.lower_block-w.auto.tokens ∙ inv.4, c.lower_block-w.auto.text ∙ inv.5)

pub returns : goal.returns
returns c = let inv = c.loop-b.invariant in λ E s. blocks_end E _ _ _ inv.2 _ c.loop-b-test.false ∙ sym (inv.0 E s)
