use Rattle.naming.proofs.Standing.{stands_first, blocks_start}
use Rattle.definition.proofs.Runs.{lists_turn, lists_end}
use Rattle.naming.specs.Walk.{walked, block_spots}
use mathlib.Core.Path.{refl, ◌∙◌}
use native.Mathlib.Omega.{arith}
use Rattle.naming.proofs.walk.name_blocks.Goals as goal

pub loop-b-init : goal.loop-b-init
loop-b-init c = (blocks_start _ _ _ _ c.size_of-n.ensures, stands_first _ _, c.size_of-n.ensures, refl, refl)

pub name_block-w-requires : goal.name_block-w-requires
name_block-w-requires c = let inv = c.loop-b.invariant in (omega (arith, c.loop-b-test.true, inv.2), inv.1)

pub loop-b-preserved : goal.loop-b-preserved
unfolding walked
loop-b-preserved c = let inv = c.loop-b.invariant in (inv.0 ∙ lists_turn (walked _) _ (λ S. refl) (λ S x xs. refl) (block_spots c.args.of.now.f.now) _ _ _ _ c.loop-b-test.true c.name_block-w.ensures.says, c.name_block-w.ensures.stands, inv.2, c.name_block-w.auto.names ∙ inv.3, c.name_block-w.auto.seen ∙ inv.4)

pub returns : goal.returns
unfolding walked
returns c = lists_end (walked _) _ (λ S. refl) (λ S x xs. refl) (block_spots c.args.of.now.f.now) _ _ _ _ c.loop-b-test.false c.loop-b.invariant.0
