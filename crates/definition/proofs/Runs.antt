-- Runs over lists, whatever is stepped and however: over two lists a run is one run behind another. A loop goes over the numbers from k up to n, with
-- an element or a list for each: what it has still to run over loses the first of them at each turn, and nothing is left at the end.
use mathlib.Core.Path.{◌≡◌, sym, ap, ◌∙◌}
use mathlib.Core.List.{List, [], ◌∷◌, ◌++◌, map}
use Prim.Native.Nat.{ℕ, suc, ◌+◌, ◌-◌, ◌≤◌, ◌<◌}
use native.Mathlib.Omega.{arith}
use Rattle.definition.specs.Lists.{gather, range}

module _ {S A : Type 0} (run : S → List A → S) (step : S → A → S) (none : (s : S) → run s [] ≡ s) (next : (s : S) (x : A) (xs : List A) → run s (x ∷ xs) ≡ run (step s x) xs) where
  pub run_append : (s : S) (xs ys : List A) → run s (xs ++ ys) ≡ run (run s xs) ys
  run_append s [] ys = ap (λ (z : S). run z ys) (sym (none s))
  run_append s (x ∷ xs) ys = next s x (xs ++ ys) ∙ run_append (step s x) xs ys ∙ ap (λ (z : S). run z ys) (sym (next s x xs))

  -- one run behind another
  pub run_then : (s t r : S) (xs ys : List A) → t ≡ run s xs → r ≡ run t ys → r ≡ run s (xs ++ ys)
  run_then s t r xs ys p q = q ∙ ap (λ (z : S). run z ys) p ∙ sym (run_append s xs ys)

  -- an element for each number
  pub each_turn : (g : ℕ → A) (s t : S) (k n : ℕ) → k < n → t ≡ step s (g k) → run s (map g (range k (n - k))) ≡ run t (map g (range (k + 1) (n - (k + 1))))
  unfolding range
  each_turn g s t k n h e =
      let p : n - k ≡ suc (n - (k + 1)) = omega arith in
      rw (p, e) (next s (g k) (map g (range (k + 1) (n - (k + 1)))))

  pub each_end : (g : ℕ → A) (s r : S) (k n : ℕ) → n ≤ k → r ≡ run s (map g (range k (n - k))) → s ≡ r
  unfolding range
  each_end g s r k n h e = let p : n - k ≡ 0 = omega arith in sym (e ∙ rw p (none s))

  -- a list for each number
  pub lists_turn : (g : ℕ → List A) (s t : S) (k n : ℕ) → k < n → t ≡ run s (g k) → run s (gather g (range k (n - k))) ≡ run t (gather g (range (k + 1) (n - (k + 1))))
  unfolding gather range
  lists_turn g s t k n h e =
      let p : n - k ≡ suc (n - (k + 1)) = omega arith in
      rw (p, e) (run_append s (g k) (gather g (range (k + 1) (n - (k + 1)))))

  pub lists_end : (g : ℕ → List A) (s r : S) (k n : ℕ) → n ≤ k → r ≡ run s (gather g (range k (n - k))) → s ≡ r
  unfolding gather range
  lists_end g s r k n h e = let p : n - k ≡ 0 = omega arith in sym (e ∙ rw p (none s))

-- how such a loop begins: n is what it runs to, and m is what the definition calls it
pub loop_start {ℓ} : {B : Type ℓ} (f : ℕ → B) (n m : ℕ) → n ≡ m → f m ≡ f (n - 0)
loop_start f n m e = let k : m ≡ n - 0 = omega arith in ap f k
