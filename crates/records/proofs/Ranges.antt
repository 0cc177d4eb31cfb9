-- Lists over a range of numbers: a range goes on where its first part ends, or begins elsewhere; lists one behind the other; the first of a list.
use mathlib.Core.Path.{◌≡◌, refl, sym, ap, ap₂, ◌∙◌}
use mathlib.Core.Bool.{Bool, cond}
use mathlib.Core.List.{List, [], ◌∷◌, ◌++◌, map, map-append, append-nil, append_assoc}
use Prim.Native.Nat.{ℕ, zero, suc, ◌+◌, ◌≤◌}
use native.Mathlib.Omega.{arith}
use lib.ListN.{take}
use Rattle.definition.specs.Lists.{only, gather, range}
use Rattle.definition.proofs.Bools.{by_test}

-- ---- a range in two parts
pub range_parts : (a n m : ℕ) → range a (n + m) ≡ range a n ++ range (a + n) m
unfolding range
range_parts a zero m =
    let p : 0 + m ≡ m = omega arith in
    let q : a + 0 ≡ a = omega arith in
    rw (p, q)
range_parts a (suc n) m =
    let p : suc n + m ≡ suc (n + m) = omega arith in
    let q : a + suc n ≡ a + 1 + n = omega arith in
    rw (p, q, range_parts (a + 1) n m)

pub range_last : (n : ℕ) → range 0 (suc n) ≡ range 0 n ++ (n ∷ [])
unfolding range
range_last n =
    let p : suc n ≡ n + 1 = omega arith in
    let q : 0 + n ≡ n = omega arith in
    ap (range 0) p ∙ range_parts 0 n 1 ∙ ap (λ (k : ℕ). range 0 n ++ (k ∷ [])) q

-- one number more, at the end
module _ {A : Type 0} (g : ℕ → A) where
  pub map_snoc : (a n : ℕ) → map g (range a (suc n)) ≡ map g (range a n) ++ (g (a + n) ∷ [])
  unfolding range
  map_snoc a zero = let p : a + 0 ≡ a = omega arith in rw p
  map_snoc a (suc n) = let p : a + suc n ≡ a + 1 + n = omega arith in rw p (ap (λ (l : List A). g a ∷ l) (map_snoc (a + 1) n))

  pub map_last : (n : ℕ) → map g (range 0 (suc n)) ≡ map g (range 0 n) ++ (g n ∷ [])
  map_last n = ap (map g) (range_last n) ∙ map-append g (range 0 n) (n ∷ [])

-- from another start
pub shift : {A : Type 0} (g : ℕ → A) (a b n : ℕ) → map (λ k. g (a + k)) (range b n) ≡ map g (range (a + b) n)
unfolding range
shift g a b zero = refl
shift {A} g a b (suc n) =
    let p : a + (b + 1) ≡ a + b + 1 = omega arith in
    ap (λ (l : List A). g (a + b) ∷ l) (shift g a (b + 1) n ∙ ap (λ (m : ℕ). map g (range m n)) p)

-- ---- lists one behind the other
module _ {A : Type 0} {B : Type 0} (g : A → List B) where
  pub gather_append : (xs ys : List A) → gather g (xs ++ ys) ≡ gather g xs ++ gather g ys
  unfolding gather
  gather_append [] ys = refl
  gather_append (x ∷ xs) ys = rw (gather_append xs ys) (sym (append_assoc (g x) (gather g xs) (gather g ys)))

pub gather_last : {B : Type 0} (g : ℕ → List B) (n : ℕ) → gather g (range 0 (suc n)) ≡ gather g (range 0 n) ++ g n
unfolding gather
gather_last {B} g n = ap (gather g) (range_last n) ∙ gather_append g (range 0 n) (n ∷ []) ∙ ap (λ (l : List B). gather g (range 0 n) ++ l) (append-nil (g n))

module _ {A : Type 0} {B : Type 0} {C : Type 0} where
  pub gather_map : (h : B → List C) (g : A → B) (xs : List A) → gather h (map g xs) ≡ gather (λ x. h (g x)) xs
  unfolding gather
  gather_map h g [] = refl
  gather_map h g (x ∷ xs) = ap (λ (l : List C). h (g x) ++ l) (gather_map h g xs)

  pub map_gather : (g : B → C) (h : A → List B) (xs : List A) → map g (gather h xs) ≡ gather (λ x. map g (h x)) xs
  unfolding gather
  map_gather g h [] = refl
  map_gather g h (x ∷ xs) = map-append g (h x) (gather h xs) ∙ ap (λ (l : List C). map g (h x) ++ l) (map_gather g h xs)

  -- those of which a test holds
  pub gather_only : (g : B → List C) (p : B → Bool) (h : A → B) (xs : List A) → gather g (only p (map h xs)) ≡ gather (λ x. cond (p (h x)) (g (h x)) []) xs
  unfolding gather only
  gather_only g p h [] = refl
  gather_only g p h (x ∷ xs) =
      let r = gather_only g p h xs in
      by_test (p (h x)) (λ t. rw t (ap (λ (l : List C). g (h x) ++ l) r)) (λ t. rw t r)

pub gather_same : {A : Type 0} {B : Type 0} (g h : A → List B) → ((x : A) → g x ≡ h x) → (xs : List A) → gather g xs ≡ gather h xs
unfolding gather
gather_same g h e [] = refl
gather_same g h e (x ∷ xs) = ap₂ (λ (a b : List _). a ++ b) (e x) (gather_same g h e xs)

pub map-map : {A : Type 0} {B : Type 0} {C : Type 0} (h : B → C) (g : A → B) (xs : List A) → map h (map g xs) ≡ map (λ x. h (g x)) xs
map-map h g [] = refl
map-map h g (x ∷ xs) = ap (λ l. h (g x) ∷ l) (map-map h g xs)

-- ---- the first of a list
pub take_less : (c a n : ℕ) → c ≤ n → take c (range a n) ≡ range a c
unfolding range
take_less zero a n h = refl
take_less (suc c) a zero h = absurd (omega arith)
take_less (suc c) a (suc n) h = ap (λ (l : List ℕ). a ∷ l) (take_less c (a + 1) n (omega arith))

pub take_map : {A : Type 0} {B : Type 0} (g : A → B) (c : ℕ) (l : List A) → take c (map g l) ≡ map g (take c l)
take_map g zero l = refl
take_map g (suc c) [] = refl
take_map {A} {B} g (suc c) (x ∷ l) = ap (λ (m : List B). g x ∷ m) (take_map g c l)
