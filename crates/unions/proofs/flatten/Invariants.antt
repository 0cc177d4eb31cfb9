-- Below i every link goes to its root, and a link that is moved to its root changes no roots; at the end every link is a root.
use mathlib.Core.Path.{◌≡◌}
use Prim.Native.Nat.{ℕ, ◌<◌}
use lib.ListN.{length}
use Rattle.definition.specs.Lists.{at}
use Rattle.unions.specs.Roots.{root_at, roots_of}
use Rattle.unions.proofs.flatten.Given as goal

abbrev pub invariant-loop-i : goal.invariant-loop-i
invariant-loop-i l = ((j : ℕ) → j < l.i → at l.roots j ≡ root_at l.keys l.roots j) × (length l.roots ≡ length l.initial.roots) × (roots_of l.keys l.roots ≡ roots_of l.keys l.initial.roots)
