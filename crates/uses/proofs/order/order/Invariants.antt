-- The statements before i have put their nodes and where they start; the next start is where these nodes end, inside as all have room.
use Rattle.uses.proofs.Orders.{uses_before, starts_before}
use Rattle.uses.specs.Filling.{filling, put_all}
use Rattle.definition.specs.Owners.{first_item}
use Rattle.definition.specs.Contents.{size}
use Rattle.definition.specs.Edition.{statements}
use lib.ListN.{length}
use Prim.Native.Nat.{◌≤◌}
use mathlib.Core.Path.{◌≡◌}
use Rattle.uses.proofs.order.order.Given as goal

abbrev pub invariant-loop-i : goal.invariant-loop-i
invariant-loop-i l = (filling l.order l.at ≡ put_all (filling l.initial.order 0) (uses_before l.f l.i)) × (l.starts ≡ starts_before l.f (length l.initial.starts) l.i) × (l.first ≡ first_item l.f l.i) × (l.n ≡ size l.f statements) × (l.i ≤ l.n) × (length l.order ≡ length l.initial.order) × (length l.starts ≡ length l.initial.starts)
