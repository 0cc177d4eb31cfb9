-- The order of two numbers by their keys, and a table in which each number is its own root.
use mathlib.Core.Path.{◌≡◌, sym, ◌∙◌}
use mathlib.Core.Bool.{true}
use mathlib.Core.List.{List}
use Prim.Native.Nat.{ℕ, ◌≤◌, ◌<◌}
use native.Mathlib.Omega.{arith}
use lib.Dec.{ltb}
use lib.ListN.{length}
use borrow.Author.Tests.{ltb-true}
use Rattle.definition.specs.Lists.{range, at}
use Rattle.records.proofs.Editions.{length_range}
use Rattle.values.proofs.Tables.{same_at}
use Rattle.unions.specs.Roots.{under}
use Rattle.unions.proofs.Labels.{at_range}

-- ---- the order of two numbers
module _ (ks : List ℕ) (i j : ℕ) where
  pub less_is : (x y : ℕ) → x ≡ at ks i → y ≡ at ks j → ltb x y ≡ under ks i j
  unfolding under
  less_is x y p q = rw (p, q)

  pub less_falls : under ks i j ≡ true → at ks i < at ks j
  unfolding under
  less_falls h = ltb-true (at ks i) (at ks j) h

-- ---- each number its own root
pub own_end : (l : List ℕ) (n k : ℕ) → length l ≡ n → n ≤ k → ((j : ℕ) → j < k → at l j ≡ j) → l ≡ range 0 n
own_end l n k e h f = same_at l (range 0 n) (e ∙ sym (length_range 0 n)) (λ i m. f i (omega arith) ∙ sym (at_range n i (omega arith)))
