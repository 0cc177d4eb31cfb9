-- Each turn adds the source's next byte; at the source's length all of it stands before what stood behind.
use Rattle.leaf.proofs.Copies.{copy_more, copy_done}
use Rattle.leaf.proofs.Leaves.{leaf_short}
use lib.ListN.{length, set, length-set, get_or}
use native.Mathlib.Omega.{arith}
use mathlib.Core.Path.{◌≡◌, refl, ap, ◌∙◌}
use Rattle.leaf.proofs.copy.Goals as goal

pub returns-then-dst-n : goal.returns-then-dst-n
returns-then-dst-n c = leaf_short _ _ c.if-dst-n.true

pub loop-i-init : goal.loop-i-init
loop-i-init c = (refl, refl)

pub loop-i-preserved : goal.loop-i-preserved
loop-i-preserved c = let inv = c.loop-i.invariant in
    let i = c.loop-i.i in
    (ap (λ l. set l i (get_or c.args.src.now i 0)) inv.0 ∙ copy_more c.args.src.now c.args.dst.now i (omega arith) (omega arith), simp length-set inv.1)

pub returns : goal.returns
returns c = let done : c.loop-i.i ≡ length c.args.src.now = omega arith in
    rw (← done) (copy_done c.args.src.now c.args.dst.now _ c.loop-i.i c.loop-i.invariant.0 (omega arith) (omega arith) (omega arith))
