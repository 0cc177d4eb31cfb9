use native.Mathlib.Omega.{arith}
use mathlib.Core.Path.{refl}
use Prim.Native.Nat.{◌<◌}
use lib.ListN.{length, length-set}
use Rattle.definition.specs.Lists.{at}
use Rattle.classes.proofs.Turns.{spare_start, spare_turn, spare_end}
use Rattle.classes.proofs.spare.Goals as goal

pub loop-i-init : goal.loop-i-init
loop-i-init c = (spare_start _ _ _, refl)

pub loop-i-preserved : goal.loop-i-preserved
unfolding at
loop-i-preserved c =
    let here : c.loop-i.i < length c.loop-i.roots = omega (arith, c.loop-i.invariant.1) in
    (spare_turn _ _ _ _ _ _ _ here refl c.keep.ensures c.loop-i.invariant.0, simp length-set c.loop-i.invariant.1)

pub returns : goal.returns
returns c = spare_end _ _ _ _ _ c.loop-i.invariant.1 (omega (arith, c.loop-i.invariant.1)) c.loop-i.invariant.0
