use mathlib.Core.Path.{refl}
use Prim.Native.Nat.{◌≤◌}
use native.Mathlib.Omega.{arith}
use Rattle.records.proofs.Below.{sum_start, sum_turn}
use Rattle.sections.proofs.Owned.{passes}
use Rattle.sections.proofs.layout.add_up.Goals as goal

pub loop-i-init : goal.loop-i-init
loop-i-init g c h says = omega (arith, sum_start h)

pub returns-in_default : goal.returns-in_default
returns-in_default g c h says =
    passes h c.loop-i.i c.args.n c.loop-i.left c.part.result c.args.whole c.loop-i-test.true (c.loop-i.invariant h says) (says _ _ c.part.ensures)
    (let less : c.part.result ≤ c.loop-i.left → ⊥ = c.in_default.ensures in omega arith)

pub loop-i-preserved : goal.loop-i-preserved
loop-i-preserved g c h says =
    let rest = c.in-Some.ensures in
    omega (arith, c.loop-i.invariant h says, sum_turn h refl (says _ _ c.part.ensures))
