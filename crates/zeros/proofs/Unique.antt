-- The contract of all three functions gives the table at exit by an equation: no second one satisfies it.
use mathlib.Core.Path.{◌≡◌, sym, ◌∙◌}
use mathlib.Core.List.{List}
use Prim.Native.Nat.{ℕ}
use lib.ListN.{length, replicate}

pub cleared : (t u v : List ℕ) → u ≡ replicate (length t) 0 → v ≡ replicate (length t) 0 → u ≡ v
cleared t u v p q = p ∙ sym q
