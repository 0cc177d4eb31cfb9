-- `Each`, a property of every element; and laws of the lists' words, `any`, `only`, `count`, `total`, at `++`, `map` and `only`, each by one induction.
use mathlib.Core.Path.{◌≡◌, refl, sym, ap, ◌∙◌}
use mathlib.Core.Bool.{Bool, true, false, cond, false≢true}
use mathlib.Core.List.{List, [], ◌∷◌, ◌++◌, map}
use Prim.Native.Nat.{ℕ, zero, suc, ◌+◌, ◌≤◌, ◌<◌}
use native.Mathlib.Omega.{arith}
use lib.ListN.{length, get_or, take, drop, set, replicate, length-replicate, get_or-eq_default}
use lib.Seq.{set_out}
use Rattle.definition.specs.Lists.{all, any, only, count, total, range, at}
use Rattle.definition.proofs.Bools.{by_cond, both_false, both_true, or_cases, or_right, or_left, by_test}

-- ---- every element
infixr 60 ◌▸◌
pub data Each {A : Type 0} (P : A → Type 0) : List A → Type 0 where
  end : Each P []
  ◌▸◌ : {x : A} {xs : List A} → P x → Each P xs → Each P (x ∷ xs)

module _ {A : Type 0} {P : A → Type 0} where
  pub each_head : {x : A} {xs : List A} → Each P (x ∷ xs) → P x
  each_head (p ▸ h) = p

  pub each_tail : {x : A} {xs : List A} → Each P (x ∷ xs) → Each P xs
  each_tail (p ▸ h) = h

  pub each_append : {xs ys : List A} → Each P xs → Each P ys → Each P (xs ++ ys)
  each_append end k = k
  each_append (p ▸ h) k = p ▸ each_append h k

  pub each_left : (xs ys : List A) → Each P (xs ++ ys) → Each P xs
  each_left [] ys h = end
  each_left (x ∷ xs) ys (p ▸ h) = p ▸ each_left xs ys h

  pub each_right : (xs ys : List A) → Each P (xs ++ ys) → Each P ys
  each_right [] ys h = h
  each_right (x ∷ xs) ys (p ▸ h) = each_right xs ys h

  pub each_to : {Q : A → Type 0} {xs : List A} → ((x : A) → P x → Q x) → Each P xs → Each Q xs
  each_to f end = end
  each_to f (◌▸◌ {x = x} p h) = f x p ▸ each_to f h

  pub each_map : {B : Type 0} {Q : B → Type 0} {xs : List A} (g : A → B) → ((x : A) → P x → Q (g x)) → Each P xs → Each Q (map g xs)
  each_map g f end = end
  each_map g f (◌▸◌ {x = x} p h) = f x p ▸ each_map g f h

  pub each_take : (n : ℕ) {xs : List A} → Each P xs → Each P (take n xs)
  each_take zero h = end
  each_take (suc n) end = end
  each_take (suc n) (p ▸ h) = p ▸ each_take n h

  pub each_drop : (n : ℕ) {xs : List A} → Each P xs → Each P (drop n xs)
  each_drop zero h = h
  each_drop (suc n) end = end
  each_drop (suc n) (p ▸ h) = each_drop n h

  -- what stands for the numbers from a on
  pub each_range : (g : ℕ → A) (a n : ℕ) → ((i : ℕ) → i < a + n → P (g i)) → Each P (map g (range a n))
  unfolding range
  each_range g a zero h = end
  each_range g a (suc n) h = h a (omega arith) ▸ each_range g (a + 1) n (λ i l. h i (omega arith))

  pub each_only : (p : A → Bool) {xs : List A} → Each P xs → Each P (only p xs)
  unfolding only
  each_only p end = end
  each_only p (◌▸◌ {x = x} q h) = let r = each_only p h in by_cond (Each P) (p x) (λ e. q ▸ r) (λ e. r)

-- a test that holds of every element, or of none
module _ {A : Type 0} (p : A → Bool) where
  says_each : (b : Bool) (test : List A → Bool) → ((x : A) (xs : List A) → test (x ∷ xs) ≡ b → (p x ≡ b) × (test xs ≡ b)) → (xs : List A) → test xs ≡ b
      → Each (λ x. p x ≡ b) xs
  says_each b test parts [] e = end
  says_each b test parts (x ∷ xs) e = let q = parts x xs e in q.0 ▸ says_each b test parts xs q.1

  pub all_each : (xs : List A) → all p xs ≡ true → Each (λ x. p x ≡ true) xs
  unfolding all
  all_each = says_each true (all p) (λ x xs. both_true (p x) (all p xs))

  pub any_each : (xs : List A) → any p xs ≡ false → Each (λ x. p x ≡ false) xs
  unfolding any
  any_each = says_each false (any p) (λ x xs. both_false (p x) (any p xs))

-- ---- sums
abbrev pub bit : Bool → ℕ
bit true = 1
bit false = 0

pub bit_le : (b : Bool) → bit b ≤ 1
bit_le true = omega arith
bit_le false = omega arith

module _ {ℓ} {A : Type ℓ} (f : A → ℕ) where
  pub total_append : (xs ys : List A) → total f (xs ++ ys) ≡ total f xs + total f ys
  unfolding total
  total_append [] ys = omega arith
  total_append (x ∷ xs) ys = omega (arith, total_append xs ys)

  pub total_map : (g : A → A) → ((x : A) → f (g x) ≡ f x) → (xs : List A) → total f (map g xs) ≡ total f xs
  unfolding total
  total_map g h [] = refl
  total_map g h (x ∷ xs) = omega (arith, total_map g h xs, h x)

  pub total_only : (p : A → Bool) (xs : List A) → total f (only p xs) ≤ total f xs
  unfolding total only
  total_only p [] = omega arith
  total_only p (x ∷ xs) =
      let r = total_only p xs in
      by_cond (λ z. total f z ≤ total f (x ∷ xs)) (p x) (λ e. omega arith) (λ e. omega arith)

pub total_length {ℓ} : {A : Type ℓ} (xs : List A) → total (λ x. 1) xs ≡ length xs
unfolding total
total_length [] = refl
total_length (x ∷ xs) = omega (arith, total_length xs)

pub only_length : {A : Type 0} (p : A → Bool) (xs : List A) → length (only p xs) ≤ length xs
only_length p xs = omega (arith, total_only (λ x. 1) p xs, total_length xs, total_length (only p xs))

-- ---- zeros
pub zeros_long : (l : List ℕ) (n : ℕ) → l ≡ replicate n 0 → length l ≡ n
zeros_long l n e = ap length e ∙ length-replicate n 0

-- zeros of some length are zeros of their own
pub own_zeros : (l : List ℕ) (n : ℕ) → l ≡ replicate n 0 → l ≡ replicate (length l) 0
own_zeros l n p = p ∙ ap (λ (k : ℕ). replicate k 0) (sym (zeros_long l n p))

-- ---- counts
module _ {ℓ} {A : Type ℓ} (p : A → Bool) where
  pub count_total : (xs : List A) → count p xs ≡ total (λ x. bit (p x)) xs
  unfolding count total
  count_total [] = refl
  count_total (x ∷ xs) =
      by_cond (λ n. n ≡ bit (p x) + total (λ x. bit (p x)) xs) (p x)
      (λ e. omega (arith, count_total xs, ap bit e)) (λ e. omega (arith, count_total xs, ap bit e))

  pub count_cons : (x : A) (xs : List A) → count p (x ∷ xs) ≡ bit (p x) + count p xs
  unfolding total
  count_cons x xs = omega (arith, count_total (x ∷ xs), count_total xs)

  pub count_append : (xs ys : List A) → count p (xs ++ ys) ≡ count p xs + count p ys
  count_append xs ys = omega (arith, count_total (xs ++ ys), count_total xs, count_total ys, total_append (λ x. bit (p x)) xs ys)

  -- an element between two lists
  pub count_at : (xs : List A) (y : A) (ys : List A) → count p (xs ++ y ∷ ys) ≡ count p xs + bit (p y) + count p ys
  count_at xs y ys = omega (arith, count_append xs (y ∷ ys), count_cons y ys)

  pub count_length : (xs : List A) → count p xs ≤ length xs
  unfolding count
  count_length [] = omega arith
  count_length (x ∷ xs) =
      let r = count_length xs in
      by_cond (λ n. n ≤ suc (length xs)) (p x) (λ e. omega arith) (λ e. omega arith)

  -- what is left out does not count
  pub count_only : (q : A → Bool) → ((x : A) → q x ≡ false → p x ≡ false) → (xs : List A) → count p (only q xs) ≡ count p xs
  unfolding only
  count_only q h [] = refl
  count_only q h (x ∷ xs) =
      let r = count_only q h xs in
      by_cond (λ z. count p z ≡ count p (x ∷ xs)) (q x)
      (λ e. omega (arith, count_cons x xs, count_cons x (only q xs))) (λ e. omega (arith, count_cons x xs, ap bit (h x e)))

  pub count_only_none : (q : A → Bool) → ((x : A) → q x ≡ true → p x ≡ false) → (xs : List A) → count p (only q xs) ≡ 0
  unfolding only count
  count_only_none q h [] = refl
  count_only_none q h (x ∷ xs) =
      let r = count_only_none q h xs in
      by_cond (λ z. count p z ≡ 0) (q x) (λ e. omega (arith, count_cons x (only q xs), ap bit (h x e))) (λ e. r)

  pub any_count : (xs : List A) → any p xs ≡ true → 0 < count p xs
  unfolding any
  any_count [] e = absurd (false≢true e)
  any_count (x ∷ xs) e =
      let i = any_count xs in
      or_cases (p x) (any p xs) (λ h. omega (arith, count_cons x xs, ap bit h)) (λ h. omega (arith, count_cons x xs, i h)) e

  pub count_any : (xs : List A) → 0 < count p xs → any p xs ≡ true
  unfolding any count
  count_any [] h = absurd (omega arith)
  count_any (x ∷ xs) h =
      let i = count_any xs in
      by_test (p x) (or_left (p x) (any p xs)) (λ e. or_right (p x) (any p xs) (i (omega (arith, count_cons x xs, ap bit e))))

  pub any_none : (xs : List A) → any p xs ≡ false → count p xs ≡ 0
  unfolding any count
  any_none [] e = refl
  any_none (x ∷ xs) e = let b = both_false (p x) (any p xs) e in omega (arith, count_cons x xs, ap bit b.0, any_none xs b.1)

-- ---- the elements of which a test holds
pub only_each : {A : Type 0} (p : A → Bool) {xs : List A} → Each (λ x. p x ≡ true) xs → only p xs ≡ xs
unfolding only
only_each p end = refl
only_each p (◌▸◌ {x = x} q h) = rw (q, only_each p h)

module _ {ℓ} {A : Type ℓ} (p : A → Bool) where
  pub only_append : (xs ys : List A) → only p (xs ++ ys) ≡ only p xs ++ only p ys
  unfolding only
  only_append [] ys = refl
  only_append (x ∷ xs) ys =
      go (p x) (only_append xs ys)
    where
      go : (b : Bool) → only p (xs ++ ys) ≡ only p xs ++ only p ys → cond b (x ∷ only p (xs ++ ys)) (only p (xs ++ ys)) ≡ cond b (x ∷ only p xs) (only p xs) ++ only p ys
      go true r = ap (λ z. x ∷ z) r
      go false r = r

-- ---- a place inside the list, and one outside
pub at_in : (l : List ℕ) (i : ℕ) → get_or l i 0 ≡ at l i
unfolding at
at_in l i = refl

pub at_out : (l : List ℕ) (i : ℕ) → length l ≤ i → 0 ≡ at l i
unfolding at
at_out l i h = sym (get_or-eq_default l 0 h)

pub put_out : (l : List ℕ) (i x : ℕ) → length l ≤ i → l ≡ set l i x
put_out l i x h = sym (set_out l i x h)
