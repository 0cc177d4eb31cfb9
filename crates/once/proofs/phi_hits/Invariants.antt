-- The sum counts the hits among the first i phis; it is at most i, so it does not overflow, and at the end i is their count.
use Prim.Native.Nat.{◌≤◌}
use mathlib.Core.Path.{◌≡◌}
use Rattle.definition.specs.Meaning.{phi_value}
use Rattle.definition.specs.Lists.{sum_below}
use Rattle.defined.specs.Defined.{value_of, hit}
use Rattle.once.proofs.phi_hits.Given as goal

abbrev pub invariant-loop-i : goal.invariant-loop-i
invariant-loop-i l = (l.sum ≡ sum_below l.i (λ j. hit (value_of l.v) (phi_value l.f j))) × (l.i ≤ l.i-end) × (l.sum ≤ l.i)
