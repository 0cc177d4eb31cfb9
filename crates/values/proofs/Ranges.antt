-- Lists over a range of numbers: what stands at a place, how long they are, and one number more, at the end.
use mathlib.Core.Path.{◌≡◌, refl, sym, ap, ◌∙◌}
use mathlib.Core.List.{List, ◌++◌, map, append-nil}
use Prim.Native.Nat.{ℕ, zero, suc, ◌+◌, ◌-◌, ◌<◌}
use native.Mathlib.Omega.{arith}
use lib.ListN.{length, replicate, length-append, length-map, get_or-append}
use lib.Seq.{get_or-append-add}
use Rattle.definition.specs.Lists.{gather, range, sum_below, at}
use Rattle.records.proofs.Editions.{length_range}
use Rattle.records.proofs.Ranges.{range_parts, gather_append}

-- ---- one list behind another
pub at_left : (xs ys : List ℕ) (i : ℕ) → i < length xs → at (xs ++ ys) i ≡ at xs i
unfolding at
at_left xs ys i h = get_or-append xs ys 0 i h

pub at_right : (xs ys : List ℕ) (n i : ℕ) → length xs ≡ n → at (xs ++ ys) (n + i) ≡ at ys i
unfolding at
at_right xs ys n i e = rw (← e) (get_or-append-add xs ys i 0)

pub zeros_at : (n i : ℕ) → at (replicate n 0) i ≡ 0
unfolding at
zeros_at zero i = refl
zeros_at (suc n) zero = refl
zeros_at (suc n) (suc i) = zeros_at n i

-- ---- a number at each
module _ (g : ℕ → ℕ) where
  pub map_length : (a n : ℕ) → length (map g (range a n)) ≡ n
  map_length a n = length-map (range a n) g ∙ length_range a n

  pub at_map : (a n i : ℕ) → i < n → at (map g (range a n)) i ≡ g (a + i)
  unfolding at range
  at_map a zero i h = absurd (omega arith)
  at_map a (suc n) zero h = let p : a + 0 ≡ a = omega arith in rw p
  at_map a (suc n) (suc i) h =
      let p : a + suc i ≡ a + 1 + i = omega arith in
      at_map (a + 1) n i (omega arith) ∙ ap g (sym p)

  -- from 0 on
  pub at_below : (n i : ℕ) → i < n → at (map g (range 0 n)) i ≡ g i
  at_below n i h = let p : 0 + i ≡ i = omega arith in at_map 0 n i h ∙ ap g p

-- ---- a list at each
module _ (g : ℕ → List ℕ) where
  pub gather_parts : (n m : ℕ) → gather g (range 0 (n + m)) ≡ gather g (range 0 n) ++ gather g (range n m)
  gather_parts n m =
      let p : 0 + n ≡ n = omega arith in
      ap (gather g) (range_parts 0 n m ∙ ap (λ (k : ℕ). range 0 n ++ range k m) p) ∙ gather_append g (range 0 n) (range n m)

  pub gather_more : (n : ℕ) → gather g (range 0 (n + 1)) ≡ gather g (range 0 n) ++ g n
  unfolding gather range
  gather_more n = gather_parts n 1 ∙ ap (λ (l : List ℕ). gather g (range 0 n) ++ l) (append-nil (g n))

  pub gather_length : (n : ℕ) → length (gather g (range 0 n)) ≡ sum_below n (λ i. length (g i))
  unfolding sum_below gather range
  gather_length zero = refl
  gather_length (suc n) =
      let p : suc n ≡ n + 1 = omega arith in
      ap (λ (k : ℕ). length (gather g (range 0 k))) p ∙ ap length (gather_more n) ∙ length-append (gather g (range 0 n)) (g n)
      ∙ ap (λ (k : ℕ). k + length (g n)) (gather_length n)

  gather_head : (a m j : ℕ) → j < length (g a) → at (gather g (range a (suc m))) j ≡ at (g a) j
  unfolding gather range
  gather_head a m j h = at_left (g a) (gather g (range (a + 1) m)) j h

  -- place j of list i, behind the lists before it
  pub at_gather : (n i j : ℕ) → i < n → j < length (g i) → at (gather g (range 0 n)) (sum_below i (λ k. length (g k)) + j) ≡ at (g i) j
  at_gather n i j h k =
      let p : n ≡ i + suc (n - suc i) = omega arith in
      ap (λ (m : ℕ). at (gather g (range 0 m)) (sum_below i (λ k. length (g k)) + j)) p
      ∙ ap (λ (l : List ℕ). at l (sum_below i (λ k. length (g k)) + j)) (gather_parts i (suc (n - suc i)))
      ∙ at_right (gather g (range 0 i)) (gather g (range i (suc (n - suc i)))) (sum_below i (λ k. length (g k))) j (gather_length i)
      ∙ gather_head i (n - suc i) j k
