-- The six counts written one behind the other.
use mathlib.Core.Path.{◌≡◌}
use mathlib.Core.List.{List, [], ◌∷◌, ◌++◌}
use Prim.Native.Nat.{ℕ, ◌<◌, ◌≤◌}
use borrow.Author.Tests.{lt-ltb, le-ltb}
use lib.ListN.{length, drop}
use Rattle.structure.specs.declared.answers.Counts.{Counts}
use Rattle.probe.specs.Numbered.{counted}

pub no_counts : (c : List ℕ) (k : Counts) → length c < 6 → c ≡ counted c k
unfolding counted
no_counts c k h = rw (lt-ltb (length c) 6 h)

pub all_counts : (c x : List ℕ) (k : Counts) → 6 ≤ length c → x ≡ k.lines ∷ k.tokens ∷ k.bytes ∷ k.ifs ∷ k.loops ∷ k.tests ∷ []
    → x ++ drop 6 c ≡ counted c k
unfolding counted
all_counts c x k h e = rw (e, le-ltb (length c) 6 h)
