use native.Mathlib.Omega.{arith}
use mathlib.Core.Path.{refl, ◌∙◌}
use Rattle.definition.specs.Edition.{edition1}
use Rattle.lower.proofs.Standing.{stands_item, stands_end, in_block, index_small}
use Rattle.lower.proofs.Remaining.{count_first, count_next, stmts_turn, stmts_end}
use Rattle.lower.proofs.block.stmts.Goals as goal

pub loop-i-init : goal.loop-i-init
loop-i-init c = ((λ E s. refl), (λ E. count_first E _ _), stands_item _ _ _ c.requires.block_bound.1, omega arith, omega arith, omega (arith, c.requires.block_bound.1.here, c.requires.block_bound.2), c.requires.block_bound.1.here, refl, refl, refl)

pub stmt-out-requires : goal.stmt-out-requires
stmt-out-requires c = let inv = c.loop-i.invariant in record { stmt_at = record { inside = c.requires.block_bound.0; before_end = c.loop-i-test.true; ends = c.requires.block_bound.2; first = inv.2 }; set = c.requires.set }

pub next_item-item-requires : goal.next_item-item-requires
next_item-item-requires c =
    let pre = c.requires in
    (c.args.given.now.known.told.ground.counts, in_block _ c.args.given.now.known.told.ground.counts _ _ _ pre.block_bound.0 pre.block_bound.2 c.loop-i-test.true, c.loop-i.invariant.2)

pub from_behind-from-requires : goal.from_behind-from-requires
from_behind-from-requires c = index_small _ c.args.given.now.src.of.bytes _ (in_block _ c.args.given.now.known.told.ground.counts _ _ _ c.requires.block_bound.0 c.requires.block_bound.2 c.loop-i-test.true)

pub loop-i-preserved : goal.loop-i-preserved
loop-i-preserved c = let inv = c.loop-i.invariant in ((λ E s. inv.0 E s ∙ stmts_turn E _ _ _ _ _ _ _ _ _ inv.4 c.loop-i-test.true (c.from_behind-from.ensures E inv.3).0 (c.stmt-out.ensures E _ s (inv.1 E))), (λ E. count_next E _ _ _ _ inv.4 (c.set_behind-count.ensures E _ (inv.1 E))), c.next_item-item.ensures, (c.from_behind-from.ensures edition1 inv.3).1, omega (arith, inv.4), omega (arith, c.loop-i-test.true), inv.6, c.stmt-out.auto.lines ∙ inv.7, c.stmt-out.auto.tokens ∙ inv.8, c.stmt-out.auto.text ∙ inv.9)

pub returns : goal.returns
returns c = let inv = c.loop-i.invariant in (stands_end _ _ _ _ _ inv.5 c.loop-i-test.false inv.2, (λ E s. stmts_end E _ _ _ _ _ _ _ _ c.loop-i-test.false inv.6 c.requires.block_bound.2 (inv.0 E s)))
