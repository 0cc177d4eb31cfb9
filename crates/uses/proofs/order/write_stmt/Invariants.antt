-- Putting the Use nodes of the roots from the j-th on gives at every turn what putting the statement's gives; a turn puts one root's.
use Rattle.uses.proofs.Orders.{root_uses}
use Rattle.uses.specs.Filling.{filling, put_all}
use Rattle.uses.specs.Uses.{stmt_uses}
use Rattle.mentions.specs.Named.{root_count}
use Rattle.definition.specs.Contents.{size}
use Rattle.definition.specs.Edition.{expressions}
use lib.ListN.{length}
use Prim.Native.Nat.{◌-◌}
use mathlib.Core.Path.{◌≡◌}
use Rattle.uses.proofs.order.write_stmt.Given as goal

abbrev pub invariant-loop-j : goal.invariant-loop-j
invariant-loop-j l = (put_all (filling l.initial.order l.k) (stmt_uses l.f l.i) ≡ put_all (filling l.order l.at) (root_uses l.f l.i l.first l.j (l.n - l.j))) × (l.n ≡ root_count l.f l.i) × (l.b ≡ size l.f expressions) × (length l.order ≡ length l.initial.order)
