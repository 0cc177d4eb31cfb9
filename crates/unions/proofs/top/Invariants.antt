-- The root over r is that over x; while the link leads to a lesser key r follows it and its key falls, and when not, r is the root.
use Prim.Native.Nat.{◌<◌}
use mathlib.Core.Path.{◌≡◌}
use Rattle.definition.specs.Lists.{at}
use Rattle.unions.specs.Roots.{root_at}
use Rattle.unions.proofs.top.Given as goal

abbrev pub invariant-loop-r : goal.invariant-loop-r
invariant-loop-r l = (root_at l.keys l.roots l.x ≡ root_at l.keys l.roots l.r) × (l.p ≡ at l.roots l.r) × (l.r < 4294967296) × (l.p < 4294967296)

abbrev pub decreases-loop-r : goal.decreases-loop-r
decreases-loop-r l = at l.keys l.r
