-- A link from c to its root r changes no root, and r is also the root of where c led; the key falls on the way.
use Prim.Native.Nat.{◌<◌}
use mathlib.Core.Path.{◌≡◌}
use lib.ListN.{length}
use Rattle.definition.specs.Lists.{at}
use Rattle.unions.specs.Roots.{root_at, roots_of}
use Rattle.unions.proofs.shorten.Given as goal

abbrev pub invariant-loop-roots : goal.invariant-loop-roots
invariant-loop-roots l = (roots_of l.keys l.roots ≡ roots_of l.keys l.initial.roots) × (length l.roots ≡ length l.initial.roots) × (l.r ≡ root_at l.keys l.roots l.c) × (l.p ≡ at l.roots l.c) × (l.c < 4294967296)
    × (l.p < 4294967296)

abbrev pub decreases-loop-roots : goal.decreases-loop-roots
decreases-loop-roots l = at l.keys l.c
