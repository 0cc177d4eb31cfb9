-- What is left of the whole and the sum of the owners before i make the whole.
use Prim.Native.Nat.{ℕ, ◌+◌}
use mathlib.Core.Path.{◌≡◌}
use Rattle.definition.specs.Lists.{sum_below}
use Rattle.sections.proofs.layout.add_up.Given as goal

abbrev pub invariant-loop-i : goal.invariant-loop-i
invariant-loop-i g l = (h : ℕ → ℕ) → ((i k : ℕ) → goal.F-post g l.part i k → k ≡ h i) → l.left + sum_below l.i h ≡ l.whole
