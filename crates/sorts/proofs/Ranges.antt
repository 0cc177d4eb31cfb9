-- Lists over the numbers from 0 on: what stands at a place, and lists that have it.
use mathlib.Core.Path.{◌≡◌, sym, ap, ◌∙◌}
use mathlib.Core.List.{List, map}
use Prim.Native.Nat.{ℕ, zero, suc, ◌+◌, ◌<◌}
use native.Mathlib.Omega.{arith}
use lib.ListN.{length, get_or, length-map}
use lib.Seq.{ext_get_or}
use Rattle.definition.specs.Lists.{range}
use Rattle.records.proofs.Editions.{length_range}

module _ {A : Type 0} (f : ℕ → A) where
  pub below_length : (n : ℕ) → length (map f (range 0 n)) ≡ n
  below_length n = length-map (range 0 n) f ∙ length_range 0 n

  from_at : (a n i : ℕ) (d : A) → i < n → get_or (map f (range a n)) i d ≡ f (a + i)
  unfolding range
  from_at a zero i d h = absurd (omega arith)
  from_at a (suc n) zero d h = let p : a + 0 ≡ a = omega arith in rw p
  from_at a (suc n) (suc i) d h =
      let p : a + suc i ≡ a + 1 + i = omega arith in
      from_at (a + 1) n i d (omega arith) ∙ ap f (sym p)

  pub below_at : (n i : ℕ) (d : A) → i < n → get_or (map f (range 0 n)) i d ≡ f i
  below_at n i d h = let p : 0 + i ≡ i = omega arith in from_at 0 n i d h ∙ ap f p

  -- a list that has f at each place
  pub below_is : (xs : List A) (d : A) → ((i : ℕ) → i < length xs → f i ≡ get_or xs i d) → map f (range 0 (length xs)) ≡ xs
  below_is xs d h =
      ext_get_or d (map f (range 0 (length xs))) xs (below_length (length xs))
      (λ i k. let n : i < length xs = omega (arith, below_length (length xs)) in below_at (length xs) i d n ∙ h i n)
