-- The label, the statements up to where the next block's begin, the closing goto: three runs of lines in order are the block's.
use native.Mathlib.Omega.{arith}
use Rattle.lower.proofs.Standing.{end_is, end_inside, end_small, end_most, set_here, next_stands}
use Rattle.lower.proofs.Whole.{block_lines_lem}
use Rattle.lower.proofs.block.lower_block.Goals as goal

pub last_leaves-leaves-requires : goal.last_leaves-leaves-requires
last_leaves-leaves-requires c = end_most _ c.args.given.now.known.told.ground.counts _ c.requires.block_bound.0 _ c.requires.block_bound.1 _ c.block_stmts-n.ensures c.args.given.now.src.of.bytes

pub operands-setter-requires : goal.operands-setter-requires
operands-setter-requires c = end_inside _ c.args.given.now.known.told.ground.counts _ c.requires.block_bound.0 _ c.requires.block_bound.1 _ c.block_stmts-n.ensures

pub overflow_add-first : goal.overflow_add-first
overflow_add-first c = omega (arith, end_small c.args.given.now.src.of.f.now c.args.given.now.known.told.ground.counts c.args.block c.requires.block_bound.0 c.args.w c.requires.block_bound.1 c.block_stmts-n.result c.block_stmts-n.ensures c.args.given.now.src.of.bytes)

pub stmts-v-requires : goal.stmts-v-requires
stmts-v-requires c = let pre = c.requires in
    let block_stmts_lem = c.block_stmts-n in
    record { block_bound = (pre.block_bound.0, record { here = pre.block_bound.1.here; first = pre.block_bound.1.first }, end_is _ c.args.given.now.known.told.ground.counts _ pre.block_bound.0 _ pre.block_bound.1 _ block_stmts_lem.ensures); set = set_here _ c.args.given.now.known.told.ground.counts _ pre.block_bound.0 _ pre.block_bound.1 _ block_stmts_lem.ensures _ _ c.operands-setter.ensures }

pub closing-out-requires : goal.closing-out-requires
closing-out-requires c = c.requires.block_bound.0

pub returns : goal.returns
returns c =
    let pre = c.requires in
    let block_stmts_lem = c.block_stmts-n in
    let stmts = c.stmts-v in
    (next_stands _ c.args.given.now.known.told.ground.counts _ pre.block_bound.0 _ pre.block_bound.1 _ block_stmts_lem.ensures _ (record { here = stmts.ensures.0.here; first = stmts.ensures.0.first }), (λ E s. block_lines_lem E _ _ _ _ _ _ _ _ _ pre.block_bound.1.here block_stmts_lem.ensures (c.last_leaves-leaves.ensures E) (c.label-out.ensures E) (stmts.ensures.1 E s) (c.closing-out.ensures E)))
