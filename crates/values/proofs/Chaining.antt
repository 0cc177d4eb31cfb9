-- A walk goes on with the next place, and does not see what is written at a place above it. So a new first place, at the head of its bucket, is found,
-- and so is what was found before.
use mathlib.Core.Path.{◌≡◌, refl, sym, ap, ◌∙◌}
use mathlib.Core.Bool.{Bool, true, false, cond}
use mathlib.Core.List.{List}
use Prim.Native.Nat.{ℕ, zero, suc, ◌+◌, ◌-◌, ◌%◌, ◌≤◌, ◌<◌}
use native.Mathlib.Decide.{ℕ_discrete, dec_lt}
use native.Mathlib.Nat.{mod-lt}
use native.Mathlib.Omega.{arith}
use lib.Dec.{eqb, ltb}
use lib.ListN.{length, set, replicate, length-set}
use borrow.Author.Tests.{eq-eqb, ne_eqb, lt-ltb, le-ltb, ltb-true}
use Rattle.definition.specs.Lists.{at}
use Rattle.values.specs.Tables.{first_of, number_of, numbers_of}
use Rattle.values.specs.Chains.{steps, walked, Chained, Numbered}
use Rattle.values.proofs.Ranges.{zeros_at}
use Rattle.values.proofs.Tables.{first_is_lem, first_le, at_set_same, at_set_other, same_at, number_at, numbers_length}

-- ---- walks
module _ (ks next : List ℕ) (k : ℕ) where
  -- any number of steps that suffices
  steps_enough : (n m x : ℕ) → x ≤ n → x ≤ m → steps ks next k n x ≡ steps ks next k m x
  unfolding steps
  steps_enough zero zero x a b = refl
  steps_enough zero (suc m) x a b = rw (eq-eqb x 0 (omega arith))
  steps_enough (suc n) zero x a b = rw (eq-eqb x 0 (omega arith))
  steps_enough (suc n) (suc m) x a b = go (steps_enough n m (at next (x - 1))) (ltb (at next (x - 1)) x) refl
    where
      go : (at next (x - 1) ≤ n → at next (x - 1) ≤ m → steps ks next k n (at next (x - 1)) ≡ steps ks next k m (at next (x - 1)))
          → (t : Bool) → ltb (at next (x - 1)) x ≡ t
          → cond (eqb x 0) 0 (cond (eqb (at ks (x - 1)) k) x (cond t (steps ks next k n (at next (x - 1))) 0))
          ≡ cond (eqb x 0) 0 (cond (eqb (at ks (x - 1)) k) x (cond t (steps ks next k m (at next (x - 1))) 0))
      go rest true e =
          let l = ltb-true (at next (x - 1)) x e in
          ap (λ (y : ℕ). cond (eqb x 0) 0 (cond (eqb (at ks (x - 1)) k) x y)) (rest (omega arith) (omega arith))
      go rest false e = refl

  pub walk_none : (x : ℕ) → x ≡ 0 → 0 ≡ walked ks next k x
  unfolding walked steps
  walk_none x e = rw e

  -- one place further; the place of k; a place that leads nowhere
  module _ (x : ℕ) (some : 0 < x) where
    pub walk_hit : (z : ℕ) → z ≡ at ks (x - 1) → z ≡ k → x ≡ walked ks next k x
    unfolding walked steps
    walk_hit z e h =
        let p : x ≡ suc (x - 1) = omega arith in
        sym (ap (λ (n : ℕ). steps ks next k n x) p ∙ rw (ne_eqb x 0 (λ q. omega arith), eq-eqb (at ks (x - 1)) k (sym e ∙ h)))

    module _ (z y : ℕ) (e : z ≡ at ks (x - 1)) (other : z ≡ k → ⊥) (leads : y ≡ at next (x - 1)) where
      pub walk_turn : y < x → walked ks next k x ≡ walked ks next k y
      unfolding walked steps
      walk_turn h =
          let p : x ≡ suc (x - 1) = omega arith in
          ap (λ (n : ℕ). steps ks next k n x) p
          ∙ rw (ne_eqb x 0 (λ q. omega arith), ne_eqb (at ks (x - 1)) k (λ q. other (e ∙ q)), ← leads, lt-ltb y x h)
          (steps_enough (x - 1) y y (omega arith) (omega arith))

      pub walk_stop : x ≤ y → 0 ≡ walked ks next k x
      unfolding walked steps
      walk_stop h =
          let p : x ≡ suc (x - 1) = omega arith in
          sym (ap (λ (n : ℕ). steps ks next k n x) p
          ∙ rw (ne_eqb x 0 (λ q. omega arith), ne_eqb (at ks (x - 1)) k (λ q. other (e ∙ q)), ← leads, le-ltb y x h))

  -- a store above
  steps_below : (i y n x : ℕ) → x ≤ i → steps ks (set next i y) k n x ≡ steps ks next k n x
  unfolding steps
  steps_below i y zero x h = refl
  steps_below i y (suc n) x h = go (steps_below i y n (at next (x - 1))) (ℕ_discrete x 0)
    where
      further : (at next (x - 1) ≤ i → steps ks (set next i y) k n (at next (x - 1)) ≡ steps ks next k n (at next (x - 1)))
          → (t : Bool) → ltb (at next (x - 1)) x ≡ t → cond t (steps ks (set next i y) k n (at next (x - 1))) 0 ≡ cond t (steps ks next k n (at next (x - 1))) 0
      further rest true d = rest (omega (arith, ltb-true (at next (x - 1)) x d))
      further rest false d = refl

      go : (at next (x - 1) ≤ i → steps ks (set next i y) k n (at next (x - 1)) ≡ steps ks next k n (at next (x - 1)))
          → Dec (x ≡ 0) → steps ks (set next i y) k (suc n) x ≡ steps ks next k (suc n) x
      go rest (yes e) = rw (eq-eqb x 0 e)
      go rest (no e) =
          let q : at (set next i y) (x - 1) ≡ at next (x - 1) = at_set_other next i (x - 1) y (λ d. e (omega arith)) in
          rw (ne_eqb x 0 e, q) (ap (λ (z : ℕ). cond (eqb (at ks (x - 1)) k) x z) (further rest (ltb (at next (x - 1)) x) refl))

  walk_below : (i y x : ℕ) → x ≤ i → walked ks (set next i y) k x ≡ walked ks next k x
  unfolding walked
  walk_below i y x h = steps_below i y x x h

-- ---- chains
pub chain_start : (ks next heads : List ℕ) → heads ≡ replicate (length heads) 0 → Chained ks heads next 0
chain_start ks next heads e = record {
  finds = λ k d. sym (walk_none ks next k (at heads (k % length heads)) (zero k)) ∙ sym (rw (le-ltb (first_of ks k) 0 (omega arith)));
  low = λ b. omega (arith, ap (λ (l : List ℕ). at l b) e, zeros_at (length heads) b);
}
  where
    zero : (k : ℕ) → at heads (k % length heads) ≡ 0
    zero k = ap (λ (l : List ℕ). at l (k % length heads)) e ∙ zeros_at (length heads) (k % length heads)

-- below i and below i + 1 is the same, but for i itself
wider : (x i : ℕ) → (x ≡ i → ⊥) → cond (ltb x i) (x + 1) 0 ≡ cond (ltb x (i + 1)) (x + 1) 0
wider x i d = go (dec_lt x i)
  where
    go : Dec (x < i) → cond (ltb x i) (x + 1) 0 ≡ cond (ltb x (i + 1)) (x + 1) 0
    go (yes l) = rw (lt-ltb x i l, lt-ltb x (i + 1) (omega arith))
    go (no l) = rw (le-ltb x i (omega arith), le-ltb x (i + 1) (omega (arith, d)))

module _ (ks heads next : List ℕ) (i : ℕ) (chained : Chained ks heads next i) (here : i < length ks) where
  -- a place that is no first place
  chain_same : ((k : ℕ) → (k ≡ 0 → ⊥) → first_of ks k ≡ i → ⊥) → Chained ks heads next (i + 1)
  chain_same none = record {
    finds = λ k d. chained.finds k d ∙ wider (first_of ks k) i (none k d);
    low = λ b. omega (arith, chained.low b);
  }

  -- k is the key of place i
  module _ (k : ℕ) (is : k ≡ at ks i) where
    first_there : (m : ℕ) → first_of ks m ≡ i → m ≡ k
    first_there m e = sym (ap (at ks) (sym e) ∙ first_is_lem ks m (omega arith)) ∙ sym is

    pub number_zero : k ≡ 0 → Numbered ks i 0 heads next
    unfolding number_of
    number_zero e = record {
      number = sym (rw (eq-eqb (at ks i) 0 (sym is ∙ e)));
      chained = chain_same (λ m d q. d (first_there m q ∙ e));
    }

    -- of a value, whose bucket is b, and x is where the walk from its head ended
    module _ (named : k ≡ 0 → ⊥) (b top x : ℕ) (bucket : b ≡ k % length heads) (head : top ≡ at heads b) (walk : x ≡ walked ks next k top) where
      found : x ≡ cond (ltb (first_of ks k) i) (first_of ks k + 1) 0
      found = walk ∙ ap (walked ks next k) (head ∙ ap (at heads) bucket) ∙ chained.finds k named

      found_below : first_of ks k < i → x ≡ first_of ks k + 1
      found_below l = rw (lt-ltb (first_of ks k) i l) at found

      found_none : i ≤ first_of ks k → x ≡ 0
      found_none l = rw (le-ltb (first_of ks k) i l) at found

      pub number_found : 0 < x → Numbered ks i (x - 1) heads next
      unfolding number_of
      number_found h = go (dec_lt (first_of ks k) i)
        where
          go : Dec (first_of ks k < i) → Numbered ks i (x - 1) heads next
          go (yes l) = record {
            number = rw (← is, ne_eqb k 0 named) (omega (arith, found_below l));
            chained = chain_same (λ m d q. omega (arith, q, ap (first_of ks) (first_there m q)));
          }
          go (no l) = absurd (omega (arith, found_none (omega arith)))

      module _ (none : x ≤ 0) (room : i < length next) (buckets : 0 < length heads) where
        first_here : first_of ks k ≡ i
        first_here = go (dec_lt (first_of ks k) i)
          where
            go : Dec (first_of ks k < i) → first_of ks k ≡ i
            go (yes l) = absurd (omega (arith, found_below l))
            go (no l) = omega (arith, first_le ks i here, ap (first_of ks) is)

        new_low : (c : ℕ) → Dec (c ≡ b) → at (set heads b (i + 1)) c ≤ i + 1
        new_low c (yes e) = omega (arith, ap (at (set heads b (i + 1))) e, at_set_same heads b (i + 1) (omega (arith, mod-lt k buckets)))
        new_low c (no e) = omega (arith, at_set_other heads b c (i + 1) e, chained.low c)

        -- the key m, of this bucket or another
        module _ (m : ℕ) (some : m ≡ 0 → ⊥) where
          same_bucket : m % length heads ≡ b → Dec (k ≡ m) → walked ks (set next i top) m (i + 1) ≡ cond (ltb (first_of ks m) (i + 1)) (first_of ks m + 1) 0
          same_bucket q (yes e) =
              let p : i + 1 - 1 ≡ i = omega arith in
              let f : first_of ks m ≡ i = ap (first_of ks) (sym e) ∙ first_here in
              sym (walk_hit ks (set next i top) m (i + 1) (omega arith) k (is ∙ ap (at ks) (sym p)) e)
              ∙ sym (rw (f, lt-ltb i (i + 1) (omega arith)))
          same_bucket q (no e) =
              let p : i + 1 - 1 ≡ i = omega arith in
              let l : top ≤ i = omega (arith, chained.low b) in
              walk_turn ks (set next i top) m (i + 1) (omega arith) k top (is ∙ ap (at ks) (sym p)) e
              (sym (at_set_same next i top room) ∙ ap (at (set next i top)) (sym p)) (omega arith)
              ∙ walk_below ks next m i top top l
              ∙ ap (walked ks next m) (head ∙ ap (at heads) (sym q))
              ∙ chained.finds m some ∙ wider (first_of ks m) i (λ d. e (sym (first_there m d)))

          new_finds : Dec (m % length heads ≡ b)
              → walked ks (set next i top) m (at (set heads b (i + 1)) (m % length heads)) ≡ cond (ltb (first_of ks m) (i + 1)) (first_of ks m + 1) 0
          new_finds (yes q) =
              ap (walked ks (set next i top) m) (ap (at (set heads b (i + 1))) q ∙ at_set_same heads b (i + 1) (omega (arith, mod-lt k buckets)))
              ∙ same_bucket q (ℕ_discrete k m)
          new_finds (no q) =
              ap (walked ks (set next i top) m) (at_set_other heads b (m % length heads) (i + 1) q)
              ∙ walk_below ks next m i top (at heads (m % length heads)) (chained.low (m % length heads))
              ∙ chained.finds m some
              ∙ wider (first_of ks m) i (λ d. q (ap (λ (z : ℕ). z % length heads) (first_there m d) ∙ sym bucket))

        pub number_new : (u v : List ℕ) → u ≡ set next i top → v ≡ set heads b (i + 1) → Numbered ks i i v u
        unfolding number_of
        number_new u v p q = rw (p, q) (record {
          number = rw (← is, ne_eqb k 0 named) (sym first_here);
          chained = record {
            finds = λ m d.
                ap (λ (n : ℕ). walked ks (set next i top) m (at (set heads b (i + 1)) (m % n))) (length-set heads b (i + 1))
                ∙ new_finds m d (ℕ_discrete (m % length heads) b);
            low = λ c. new_low c (ℕ_discrete c b);
          };
        })

-- ---- tables filled from the first place on
pub filled_on : (g : ℕ → ℕ) (t u : List ℕ) (i x : ℕ) → ((j : ℕ) → j < i → at t j ≡ g j) → i < length t → x ≡ g i → u ≡ set t i x → (j : ℕ) → j < i + 1 → at u j ≡ g j
filled_on g t u i x before here is put j h = ap (λ (l : List ℕ). at l j) put ∙ go (ℕ_discrete j i)
  where
    go : Dec (j ≡ i) → at (set t i x) j ≡ g j
    go (yes e) = rw e (at_set_same t i x here ∙ is)
    go (no e) = at_set_other t i j x e ∙ before j (omega arith)

pub numbers_done : (ks t : List ℕ) (i : ℕ) → length t ≡ length ks → length ks ≤ i → ((j : ℕ) → j < i → at t j ≡ number_of ks (at ks j)) → t ≡ numbers_of ks
numbers_done ks t i len end all =
    same_at t (numbers_of ks) (len ∙ sym (numbers_length ks)) (λ j h. all j (omega arith) ∙ sym (number_at ks j (omega arith)))

pub cleared : (t u : List ℕ) → u ≡ replicate (length t) 0 → length u ≡ length t → u ≡ replicate (length u) 0
cleared t u e h = e ∙ ap (λ (n : ℕ). replicate n 0) (sym h)
