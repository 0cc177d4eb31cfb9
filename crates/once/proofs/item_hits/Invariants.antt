-- The sum counts the hits among the first k items; it is at most k, so it does not overflow, and at the end k is n.
use Prim.Native.Nat.{◌≤◌, ◌+◌}
use mathlib.Core.Path.{◌≡◌}
use Rattle.definition.specs.Lists.{sum_below}
use Rattle.defined.specs.Defined.{value_of, hit, item_value}
use Rattle.once.proofs.item_hits.Given as goal

abbrev pub invariant-loop-k : goal.invariant-loop-k
invariant-loop-k l = (l.sum ≡ sum_below l.k (λ j. hit (value_of l.v) (item_value l.f (l.from + j)))) × (l.k ≤ l.n) × (l.sum ≤ l.k)
