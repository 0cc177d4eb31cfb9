use Rattle.naming.proofs.Params.{seen_turn, seen_end}
use mathlib.Core.Path.{◌≡◌, refl, ap, ◌∙◌}
use Prim.Native.Nat.{◌+◌, ◌*◌, ◌-◌}
use lib.ListN.{set}
use native.Mathlib.Omega.{arith}
use Rattle.naming.proofs.see_params.Goals as goal

pub loop-i-init : goal.loop-i-init
loop-i-init c = (refl, omega arith, refl)

pub overflow_mul-i : goal.overflow_mul-i
overflow_mul-i c = omega (arith, c.loop-i.invariant.1, c.requires)

pub loop-i-preserved : goal.loop-i-preserved
loop-i-preserved c = let inv = c.loop-i.invariant in
    let e : 2 * (c.loop-i.i - 1) + 2 ≡ 2 * c.loop-i.i = omega (arith, c.loop-i-test.true) in
    (inv.0 ∙ seen_turn _ _ _ _ _ _ _ c.loop-i-test.true c.get.ensures c.get-r.ensures (c.put.ensures ∙ ap (set _ _) e), omega (arith, inv.1), c.put.auto.l ∙ inv.2)

pub returns : goal.returns
returns c = let z : c.loop-i.i ≡ 0 = omega arith in seen_end _ _ _ _ _ z c.loop-i.invariant.0
