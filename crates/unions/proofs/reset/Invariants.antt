-- Below i every entry is its own place; at the end the table counts up from 0.
use mathlib.Core.Path.{◌≡◌}
use Prim.Native.Nat.{ℕ, ◌<◌}
use lib.ListN.{length}
use Rattle.definition.specs.Lists.{at}
use Rattle.unions.proofs.reset.Given as goal

abbrev pub invariant-loop-i : goal.invariant-loop-i
invariant-loop-i l = ((j : ℕ) → j < l.i → at l.roots j ≡ j) × (length l.roots ≡ length l.initial.roots)
