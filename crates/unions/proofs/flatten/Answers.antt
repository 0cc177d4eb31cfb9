use mathlib.Core.Path.{refl, ◌∙◌}
use native.Mathlib.Omega.{arith}
use Prim.Native.Nat.{◌<◌}
use lib.ListN.{length, length-set}
use Rattle.unions.proofs.Labels.{flat_table, flat_on, flat_end}
use Rattle.unions.proofs.flatten.Goals as goal

pub loop-i-init : goal.loop-i-init
loop-i-init c = ((λ j h. absurd (omega arith)), refl, refl)

pub loop-i-preserved : goal.loop-i-preserved
loop-i-preserved c = let inv = c.loop-i.invariant in
    let here : c.loop-i.i < length c.loop-i.roots = omega (arith, inv.1) in (
      flat_on _ _ _ _ here c.top-r.ensures inv.0,
      simp length-set inv.1,
      flat_table _ _ _ _ here c.top-r.ensures ∙ inv.2,
    )

pub returns : goal.returns
returns c = flat_end _ _ _ _ (omega (arith, c.loop-i.invariant.1)) c.loop-i.invariant.0 c.loop-i.invariant.2
