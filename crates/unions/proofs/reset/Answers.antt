use mathlib.Core.Path.{refl}
use native.Mathlib.Omega.{arith}
use lib.ListN.{length-set}
use Rattle.values.proofs.Chaining.{filled_on}
use Rattle.unions.proofs.Orders.{own_end}
use Rattle.unions.proofs.reset.Goals as goal

pub loop-i-init : goal.loop-i-init
loop-i-init c = ((λ j h. absurd (omega arith)), refl)

pub loop-i-preserved : goal.loop-i-preserved
loop-i-preserved c = (filled_on (λ j. j) _ _ _ _ c.loop-i.invariant.0 (omega (arith, c.loop-i.invariant.1)) refl refl, simp length-set c.loop-i.invariant.1)

pub returns : goal.returns
returns c = own_end _ _ _ c.loop-i.invariant.1 (omega arith) c.loop-i.invariant.0
