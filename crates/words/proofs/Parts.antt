-- How many of n bytes from a place on there are, and that these are all of the part.
use mathlib.Core.Path.{◌≡◌, refl, ap, ◌∙◌}
use mathlib.Core.List.{List, [], ◌∷◌}
use Prim.Native.Nat.{ℕ, zero, suc, ◌-◌, ◌≤◌}
use native.Mathlib.Omega.{arith}
use lib.ListN.{length, take, drop, length-take, length-drop}
use Rattle.definition.specs.Words.{part}

module _ (f : List ℕ) (at n : ℕ) where
  pub size_most : (length (part f at n) ≤ n) × (length (part f at n) ≤ length f - at)
  unfolding part
  size_most = let t = length-take n (drop at f) in let d = length-drop at f in (omega arith, omega arith)

  -- all that there is
  pub part_cut : (m : ℕ) → m ≡ length (part f at n) → part f at m ≡ part f at n
  unfolding part
  part_cut m e = ap (λ (k : ℕ). take k (drop at f)) e ∙ cut n (drop at f)
    where
      cut : (k : ℕ) (s : List ℕ) → take (length (take k s)) s ≡ take k s
      cut zero s = refl
      cut (suc k) [] = refl
      cut (suc k) (b ∷ s) = ap (λ (l : List ℕ). b ∷ l) (cut k s)
