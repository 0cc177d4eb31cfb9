-- A list padded with zeros: its length, the next number behind those that stand there, and what is left of zeros.
use mathlib.Core.Path.{◌≡◌, refl, sym, ◌∙◌}
use mathlib.Core.List.{List, [], ◌∷◌, ◌++◌}
use Prim.Native.Nat.{ℕ, zero, suc, ◌-◌, ◌≤◌, ◌<◌}
use native.Mathlib.Omega.{arith}
use lib.ListN.{length, drop, set, replicate, length-append, length-replicate}
use lib.Seq.{set_at, append_snoc}
use Rattle.definition.specs.Listing.{padded}

pub drop_zeros : (k n : ℕ) → ◌≡◌ {A = List ℕ} (drop k (replicate n 0)) (replicate (n - k) 0)
drop_zeros zero n = let e : n - 0 ≡ n = omega arith in rw e
drop_zeros (suc k) zero = let e : 0 - suc k ≡ 0 = omega arith in rw e
drop_zeros (suc k) (suc n) = let e : suc n - suc k ≡ n - k = omega arith in drop_zeros k n ∙ rw e

module _ (n : ℕ) (w : List ℕ) where
  pub padded_set : (x : ℕ) → length w < n → set (padded n w) (length w) x ≡ padded n (w ++ (x ∷ []))
  unfolding padded
  padded_set x h =
      let m : n - length w ≡ suc (n - length (w ++ (x ∷ []))) = omega (arith, length-append w (x ∷ [])) in
      rw m
      (set_at w 0 (replicate (n - length (w ++ (x ∷ []))) 0) x (length w) refl ∙ sym (append_snoc w x (replicate (n - length (w ++ (x ∷ []))) 0)))

  pub length_padded : length w ≤ n → length (padded n w) ≡ n
  unfolding padded
  length_padded h = length-append w (replicate (n - length w) 0) ∙ omega (arith, length-replicate {A = ℕ} (n - length w) 0)
