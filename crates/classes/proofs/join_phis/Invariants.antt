-- Joining the phis from i on gives at every turn the roots that joining all gives; where phi i and its inputs stand is carried along.
use mathlib.Core.Path.{◌≡◌}
use Prim.Native.Nat.{◌≤◌, ◌-◌}
use lib.ListN.{length}
use Rattle.definition.specs.Contents.{size}
use Rattle.definition.specs.Edition.{phis}
use Rattle.unions.specs.Roots.{roots_of}
use Rattle.classes.specs.Joined.{join_phis}
use Rattle.classes.specs.Given.{Given, Standing}
use Rattle.classes.proofs.join_phis.Given as goal

abbrev pub invariant-loop-i : goal.invariant-loop-i
invariant-loop-i l = (join_phis l.f l.keys l.numbers (roots_of l.keys l.initial.roots) 0 (size l.f phis) ≡ join_phis l.f l.keys l.numbers (roots_of l.keys l.roots) l.i (l.n - l.i)) × (l.i ≤ l.n)
    × (length l.roots ≡ length l.initial.roots) × Given l.f l.keys l.numbers (length l.roots) × Standing l.f l.i l.p l.k
