-- The walk over the phis, then that over the statements, are the block's; both end where the next block's parts begin, as sums of counts.
use Rattle.naming.proofs.Standing.{phis_inside, stmts_inside, stands_here, block_went}
use Rattle.records.proofs.Items.{size_small}
use Rattle.definition.specs.Edition.{phis, statements}
use native.Mathlib.Omega.{arith}
use Rattle.naming.proofs.walk.name_block.Goals as goal

pub overflow_add-e : goal.overflow_add-e
overflow_add-e c = omega (arith, phis_inside c.args.of.now.f.now c.args.of.now.laid.own c.args.b c.requires.0 c.args.w c.requires.1 c.block_phis.result c.block_phis.ensures, size_small c.args.of.now.f.now c.args.of.now.bytes phis)

pub name_phis-v-requires : goal.name_phis-v-requires
name_phis-v-requires c = (omega arith, phis_inside _ c.args.of.now.laid.own _ c.requires.0 _ c.requires.1 _ c.block_phis.ensures, stands_here _ _ _ _ _ c.requires.1)

pub overflow_add-e-2 : goal.overflow_add-e-2
overflow_add-e-2 c = omega (arith, stmts_inside c.args.of.now.f.now c.args.of.now.laid.own c.args.b c.requires.0 c.args.w c.requires.1 c.name_phis-v.result _ c.block_stmts.result c.name_phis-v.ensures.stands c.block_stmts.ensures, size_small c.args.of.now.f.now c.args.of.now.bytes statements)

pub name_stmts-requires : goal.name_stmts-requires
name_stmts-requires c = (omega arith, stmts_inside _ c.args.of.now.laid.own _ c.requires.0 _ c.requires.1 _ _ _ c.name_phis-v.ensures.stands c.block_stmts.ensures, stands_here _ _ _ _ _ c.name_phis-v.ensures.stands)

pub returns : goal.returns
returns c = block_went _ c.args.of.now.laid.own _ c.requires.0 _ c.requires.1 _ _ _ _ _ _ _ _ _ _ _ c.block_phis.ensures c.block_stmts.ensures c.name_phis-v.ensures c.name_stmts.ensures
