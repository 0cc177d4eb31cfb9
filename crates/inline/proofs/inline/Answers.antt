use native.Mathlib.Omega.{arith}
use Prim.Native.Nat.{◌≤◌}
use mathlib.Core.Path.{refl, ◌∙◌}
use Rattle.definition.specs.Edition.{Edition}
use Rattle.inline.specs.Placing.{placed_in}
use Rattle.inline.proofs.Adding.{run_start, run_turn, stmts_start, stmts_turn, block_inside, block_small, block_placed, all_placed_lem}
use Rattle.inline.proofs.inline.Goals as goal

pub loop-b-init : goal.loop-b-init
loop-b-init c = (run_start _ _ (λ (E : Edition). placed_in E _) 0 _, stmts_start _, c.size_of-n.ensures, omega arith, refl)

pub overflow_add-end : goal.overflow_add-end
overflow_add-end c = omega (arith, block_small _ _ _ _ c.loop-b.invariant.1 c.block_stmts.ensures _ c.args.of.now.bytes c.args.of.now.told.own c.loop-b-test.true c.loop-b.invariant.2)

pub place_block-requires : goal.place_block-requires
place_block-requires c = (omega arith, block_inside _ _ _ _ c.loop-b.invariant.1 c.block_stmts.ensures _ c.args.of.now.told.own c.loop-b-test.true c.loop-b.invariant.2)

pub loop-b-preserved : goal.loop-b-preserved
loop-b-preserved c = let inv = c.loop-b.invariant in
    let z : 0 ≤ c.loop-b.b = omega arith in
    (run_turn _ _ (λ (E : Edition). placed_in E _) _ _ _ _ _ z inv.0 (block_placed _ _ _ _ inv.1 c.block_stmts.ensures _ _ _ c.place_block.ensures), stmts_turn _ _ _ _ inv.1 c.block_stmts.ensures, inv.2, omega arith, c.place_block.auto.places ∙ inv.4)

pub returns : goal.returns
returns c = all_placed_lem _ _ _ _ _ _ _ _ _ _ c.args.of.now.told c.requires c.loop-b.invariant.2 c.loop-b.invariant.3 c.loop-b-test.false c.loop-b.invariant.0
