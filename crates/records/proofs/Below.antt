-- Loops over the numbers below a bound, whatever is tested or added: how they begin, a turn, an early end, and the end. t or x is what the
-- body read of i, n is what the loop runs to, and m is what the definition calls it.
use mathlib.Core.Path.{◌≡◌, refl, sym, ap, ap₂, ◌∙◌}
use mathlib.Core.Bool.{Bool, true, false, not, ◌&&◌, and-false, and-true, and_assoc}
use mathlib.Core.List.{List}
use Prim.Native.Nat.{ℕ, zero, suc, ◌+◌, ◌≤◌, ◌<◌}
use native.Mathlib.Decide.{dec_lt}
use native.Mathlib.Numerals.{add-one}
use native.Mathlib.Omega.{arith}
use lib.Dec.{eqb}
use borrow.Author.Tests.{ne_eqb, not-true, not-false}
use denote.Param.Members.{Mut}
use Rattle.std.specs.Fn.{Called}
use Rattle.std.specs.Iterator.{YieldsThen}
use Rattle.std.specs.List.{range_with_len, list_all, FoldsTo}
use Rattle.std.specs.Option.{MatchOption}
use Rattle.std.specs.Prelude.{Option}
use Rattle.std.specs.declared.ops.Range.{Range}
use Rattle.std.proofs.iter.Yields.{nat_range_steps}
use Rattle.std.proofs.lemmas.Iterator.{YieldsList-from_range}
use Rattle.std.proofs.lemmas.Iterator.Search.{all_from_yields_List}
use Rattle.definition.specs.Lists.{all_below, sum_below}

-- what is below suc n is below n, or n
by_last : (A : Type 0) (i n : ℕ) → i < suc n → (i < n → A) → (i ≡ n → A) → A
by_last A i n h below last = go (dec_lt i n)
  where
    go : Dec (i < n) → A
    go (yes k) = below k
    go (no k) = last (omega arith)

-- ---- a test of every number
module _ (p : ℕ → Bool) where
  pub all_start : all_below 0 p ≡ true
  unfolding all_below
  all_start = refl

  pub all_turn : {i : ℕ} {t : Bool} → t ≡ p i → all_below i p ≡ true → not t ≡ false → all_below (i + 1) p ≡ true
  unfolding all_below
  all_turn says h e = rw (add-one, h, ← says) (not-false _ e)

  none_below : (i n : ℕ) → i < n → p i ≡ false → all_below n p ≡ false
  unfolding all_below
  none_below i zero h e = absurd (omega arith)
  none_below i (suc n) h e = by_last ((all_below n p && p n) ≡ false) i n h (λ k. rw (none_below i n k e)) (λ q. rw (← q, e) (and-false (all_below i p)))

  pub all_fail : {i n m : ℕ} {t : Bool} → n ≡ m → t ≡ p i → i < n → not t ≡ true → false ≡ all_below m p
  all_fail {i} {n} {m} {t} k says h e = sym (none_below i m (omega arith) (sym says ∙ not-true t e))

  pub all_done : {i n m : ℕ} → n ≡ m → all_below i p ≡ true → i ≡ n → true ≡ all_below m p
  all_done k h e = sym (rw (e ∙ k) at h)

-- tests that agree below the bound
pub all_same : (p q : ℕ → Bool) (n : ℕ) → ((i : ℕ) → i < n → p i ≡ q i) → all_below n p ≡ all_below n q
unfolding all_below
all_same p q zero h = refl
all_same p q (suc n) h = ap₂ (λ (a b : Bool). a && b) (all_same p q n (λ i k. h i (omega arith))) (h n (omega arith))

-- ---- a sum
module _ (g : ℕ → ℕ) where
  pub sum_start : 0 ≡ sum_below 0 g
  unfolding sum_below
  sum_start = refl

  pub sum_turn : {i s x : ℕ} → s ≡ sum_below i g → x ≡ g i → s + x ≡ sum_below (i + 1) g
  unfolding sum_below
  sum_turn h e = rw (add-one, h, e)

  pub sum_done : {i n m s : ℕ} → n ≡ m → s ≡ sum_below i g → i ≡ n → s ≡ sum_below m g
  sum_done k h e = rw (e ∙ k) at h

  -- a sum over fewer is no greater
  pub sum_le : (i n : ℕ) → i ≤ n → sum_below i g ≤ sum_below n g
  unfolding sum_below
  sum_le i zero h = let q : i ≡ 0 = omega arith in rw q (omega arith)
  sum_le i (suc n) h = by_last (sum_below i g ≤ sum_below n g + g n) i (suc n) (omega arith) (λ k. omega (arith, sum_le i n (omega arith))) (λ q. rw q (omega arith))

  -- what one of n ends with is no more than all have
  pub sum_part : {i s x : ℕ} (n : ℕ) → i < n → s ≡ sum_below i g → x ≡ g i → s + x ≤ sum_below n g
  sum_part {i} n h p q = omega (arith, sum_turn p q, sum_le (i + 1) n (omega arith))

  -- what passes m before n are summed, passes it then
  pub sum_over : {i s x : ℕ} (n m : ℕ) → i < n → s ≡ sum_below i g → x ≡ g i → m < s + x → false ≡ eqb (sum_below n g) m
  sum_over n m h p q k = sym (ne_eqb (sum_below n g) m (λ e. omega (arith, sum_part n h p q)))

-- the sums of two, place by place
pub sum_add : (g h : ℕ → ℕ) (n : ℕ) → sum_below n g + sum_below n h ≡ sum_below n (λ i. g i + h i)
unfolding sum_below
sum_add g h zero = refl
sum_add g h (suc n) = let e = sum_add g h n in omega arith

pub sum_same : (g h : ℕ → ℕ) (n : ℕ) → ((i : ℕ) → g i ≡ h i) → sum_below n g ≡ sum_below n h
unfolding sum_below
sum_same g h zero e = refl
sum_same g h (suc n) e = ap₂ (λ (a b : ℕ). a + b) (sum_same g h n e) (e n)

-- a sum of parts that are no greater is no greater
pub sum_mono : (g h : ℕ → ℕ) (n : ℕ) → ((i : ℕ) → i < n → g i ≤ h i) → sum_below n g ≤ sum_below n h
unfolding sum_below
sum_mono g h zero p = omega arith
sum_mono g h (suc n) p = omega (arith, sum_mono g h n (λ i k. p i (omega arith)), p n (omega arith))

-- ---- a chain `(0..n).all(..)`, whose closure computes the test of each number
more_all : (p : ℕ → Bool) (a n : ℕ) → list_all p (range_with_len a (suc n)) ≡ (list_all p (range_with_len a n) && p (a + n))
more_all p a zero = let e : a + 0 ≡ a = omega arith in rw e (and-true (p a))
more_all p a (suc n) =
    let e : a + 1 + n ≡ a + suc n = omega arith in
    let h = more_all p (a + 1) n in
    ap (λ (b : Bool). p a && b) h ∙ ap (λ (m : ℕ). p a && (list_all p (range_with_len (a + 1) n) && p m)) e
    ∙ sym (and_assoc (p a) (list_all p (range_with_len (a + 1) n)) (p (a + suc n)))

all_listed : (p : ℕ → Bool) (a n : ℕ) → list_all p (range_with_len a n) ≡ all_below n (λ k. p (a + k))
unfolding all_below
all_listed p a zero = refl
all_listed p a (suc n) = more_all p a n ∙ ap (λ (b : Bool). b && p (a + n)) (all_listed p a n)

-- from a on, or from 0
module _ {F : Type 0} {g : Mut F (ℕ × Unit {0}) Bool} {s : Range ℕ} {u : Range ℕ} {f : F} {r : Bool} where
  pub all_between : (p : ℕ → Bool) (a n : ℕ)
      → ((xs : List ℕ) × (o : Option ℕ) × (j : F) × YieldsThen nat_range_steps s xs o u × FoldsTo (λ p x q. Called g p (x, tt) true q) f xs j
      × MatchOption o (r ≡ true) (λ x. (r ≡ false) × ((h : F) × Called g j (x, tt) false h)))
      → s ≡ record { start = a; end = a + n }
      → ((x : ℕ) (b : Bool) (q : F) → Called g f (x, tt) b q → (q ≡ f) × (b ≡ p x)) → r ≡ all_below n (λ k. p (a + k))
  all_between p a n ran e h = all_from_yields_List p u f r ran (YieldsList-from_range a (a + n) n e (omega arith)) h ∙ all_listed p a n

  pub all_upto : (p : ℕ → Bool) (n : ℕ)
      → ((xs : List ℕ) × (o : Option ℕ) × (j : F) × YieldsThen nat_range_steps s xs o u × FoldsTo (λ p x q. Called g p (x, tt) true q) f xs j
      × MatchOption o (r ≡ true) (λ x. (r ≡ false) × ((h : F) × Called g j (x, tt) false h)))
      → s ≡ record { start = 0; end = n }
      → ((x : ℕ) (b : Bool) (q : F) → Called g f (x, tt) b q → (q ≡ f) × (b ≡ p x)) → r ≡ all_below n p
  all_upto p n ran e h =
      let k : 0 + n ≡ n = omega arith in
      all_between p 0 n ran (e ∙ ap (λ (m : ℕ). record { start = 0; end = m }) (sym k)) h
      ∙ all_same (λ k. p (0 + k)) p n (λ i h. let q : 0 + i ≡ i = omega arith in ap p q)
