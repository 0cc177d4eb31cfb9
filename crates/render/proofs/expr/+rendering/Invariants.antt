-- By its form an expression is pieces around its children; the position falls where a value opens, and else the node, a child being lower.
use Prim.Native.Nat.{◌+◌, ◌*◌, ◌^◌}
use Rattle.render.proofs.expr.+rendering.Given as goal

abbrev pub decreases-below : goal.decreases-below
decreases-below l = l.at.pos * 2 ^ 33 + 2 * l.at.b

abbrev pub decreases-binary : goal.decreases-binary
decreases-binary l = l.at.pos * 2 ^ 33 + (2 * l.at.n + 1)

abbrev pub decreases-through : goal.decreases-through
decreases-through l = l.at.pos * 2 ^ 33 + (2 * l.at.n + 1)

abbrev pub decreases-unary : goal.decreases-unary
decreases-unary l = l.at.pos * 2 ^ 33 + (2 * l.at.n + 1)

abbrev pub decreases-value : goal.decreases-value
decreases-value l = l.pos * 2 ^ 33
