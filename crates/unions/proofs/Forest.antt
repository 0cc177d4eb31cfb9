-- Roots, by induction over keys: the key falls with every link. One lemma, `new_link`, says what a new link does to all roots when it is known what it does
-- to the root of the number that gets it.
use mathlib.Core.Path.{◌≡◌, refl, sym, ap, subst, ◌∙◌}
use mathlib.Core.Bool.{true, false}
use mathlib.Core.List.{List}
use Prim.Native.Nat.{ℕ, zero, suc, ◌≤◌, ◌<◌}
use native.Mathlib.Omega.{arith}
use native.Mathlib.Decide.{dec_lt, ℕ_discrete}
use lib.ListN.{length, set}
use borrow.Author.Tests.{lt-ltb, le-ltb}
use Rattle.definition.specs.Lists.{at}
use Rattle.values.proofs.Tables.{at_set_same, at_set_other}
use Rattle.unions.specs.Roots.{under, climb, root_at}

-- what the test says
pub under_yes : (ks : List ℕ) (i j : ℕ) → at ks i < at ks j → under ks i j ≡ true
unfolding under
under_yes ks i j h = lt-ltb (at ks i) (at ks j) h

pub under_no : (ks : List ℕ) (i j : ℕ) → at ks j ≤ at ks i → under ks i j ≡ false
unfolding under
under_no ks i j h = le-ltb (at ks i) (at ks j) h

module _ (ks : List ℕ) where
  -- ---- one link up
  module _ (l : List ℕ) where
    up_step : (k i : ℕ) → at ks (at l i) < at ks i → climb ks l (suc k) i ≡ climb ks l k (at l i)
    unfolding climb
    up_step k i h = rw (under_yes ks (at l i) i h)

    up_top : (k i : ℕ) → at ks i ≤ at ks (at l i) → climb ks l k i ≡ i
    unfolding climb
    up_top zero i h = refl
    up_top (suc k) i h = rw (under_no ks (at l i) i h)

    -- enough links are as good as more
    climb_same : (k m i : ℕ) → at ks i ≤ k → at ks i ≤ m → climb ks l k i ≡ climb ks l m i
    climb_same zero m i a b = up_top zero i (omega arith) ∙ sym (up_top m i (omega arith))
    climb_same (suc k) zero i a b = up_top (suc k) i (omega arith) ∙ sym (up_top zero i (omega arith))
    climb_same (suc k) (suc m) i a b = go (dec_lt (at ks (at l i)) (at ks i)) (climb_same k m (at l i))
      where
        go : Dec (at ks (at l i) < at ks i) → (at ks (at l i) ≤ k → at ks (at l i) ≤ m → climb ks l k (at l i) ≡ climb ks l m (at l i))
            → climb ks l (suc k) i ≡ climb ks l (suc m) i
        go (yes h) f = up_step k i h ∙ f (omega arith) (omega arith) ∙ sym (up_step m i h)
        go (no h) f = up_top (suc k) i (omega arith) ∙ sym (up_top (suc m) i (omega arith))

    pub root_up : (i : ℕ) → at ks (at l i) < at ks i → root_at ks l i ≡ root_at ks l (at l i)
    unfolding root_at
    root_up i h =
        climb_same (at ks i) (suc (at ks i)) i (omega arith) (omega arith) ∙ up_step (at ks i) i h
        ∙ climb_same (at ks i) (at ks (at l i)) (at l i) (omega arith) (omega arith)

    pub root_top : (i : ℕ) → at ks i ≤ at ks (at l i) → root_at ks l i ≡ i
    unfolding root_at
    root_top i h = up_top (at ks i) i h

  -- ---- a property of all numbers, from the lesser keys up
  module _ (P : ℕ → Type 0) (f : (i : ℕ) → ((j : ℕ) → at ks j < at ks i → P j) → P i) where
    lesser : (k i : ℕ) → at ks i < k → P i
    lesser zero i h = absurd (omega arith)
    lesser (suc k) i h = f i (λ j g. lesser k j (omega arith))

    pub by_keys : (i : ℕ) → P i
    by_keys i = lesser (suc (at ks i)) i (omega arith)

  -- ---- roots
  module _ (l : List ℕ) where
    pub root_le : (i : ℕ) → at ks (root_at ks l i) ≤ at ks i
    root_le = by_keys (λ (i : ℕ). at ks (root_at ks l i) ≤ at ks i) (λ i r. go i r (dec_lt (at ks (at l i)) (at ks i)))
      where
        go : (i : ℕ) → ((j : ℕ) → at ks j < at ks i → at ks (root_at ks l j) ≤ at ks j) → Dec (at ks (at l i) < at ks i) → at ks (root_at ks l i) ≤ at ks i
        go i r (yes h) = rw (root_up l i h) (omega (arith, r (at l i) h))
        go i r (no h) = let k : at ks i ≤ at ks (at l i) = omega arith in rw (root_top l i k) (omega arith)

    -- a root's link does not lead to a lesser key
    pub root_is : (i : ℕ) → at ks (root_at ks l i) ≤ at ks (at l (root_at ks l i))
    root_is = by_keys (λ (i : ℕ). Top (root_at ks l i)) (λ i r. go i r (dec_lt (at ks (at l i)) (at ks i)))
      where
        Top : ℕ → Type 0
        Top z = at ks z ≤ at ks (at l z)

        go : (i : ℕ) → ((j : ℕ) → at ks j < at ks i → Top (root_at ks l j)) → Dec (at ks (at l i) < at ks i) → Top (root_at ks l i)
        go i r (yes h) = subst Top (sym (root_up l i h)) (r (at l i) h)
        go i r (no h) = let k : at ks i ≤ at ks (at l i) = omega arith in subst Top (sym (root_top l i k)) k

    pub root_root : (i : ℕ) → root_at ks l (root_at ks l i) ≡ root_at ks l i
    root_root i = root_top l (root_at ks l i) (root_is i)

    -- ---- number c gets a link to r: roots go by g
    module _ (c r : ℕ) (g : ℕ → ℕ) (still : (i : ℕ) → (i ≡ c → ⊥) → g i ≡ i) (here : c < length l) where
      abbrev New : ℕ → Type 0
      New i = root_at ks (set l c r) i ≡ g (root_at ks l i)

      other : (i : ℕ) → ((j : ℕ) → at ks j < at ks i → New j) → (i ≡ c → ⊥) → Dec (at ks (at l i) < at ks i) → New i
      other i f n (yes h) =
          let q : at (set l c r) i ≡ at l i = at_set_other l c i r n in
          let k : at ks (at (set l c r) i) < at ks i = rw q h in
          root_up (set l c r) i k ∙ ap (root_at ks (set l c r)) q ∙ f (at l i) h ∙ ap g (sym (root_up l i h))
      other i f n (no h) =
          let q : at (set l c r) i ≡ at l i = at_set_other l c i r n in
          let k : at ks i ≤ at ks (at l i) = omega arith in
          let m : at ks i ≤ at ks (at (set l c r) i) = rw q k in
          root_top (set l c r) i m ∙ sym (still i n) ∙ ap g (sym (root_top l i k))

      pub new_link : (((j : ℕ) → at ks j < at ks c → New j) → New c) → (i : ℕ) → New i
      new_link own = by_keys New (λ i f. go i f (ℕ_discrete i c))
        where
          go : (i : ℕ) → ((j : ℕ) → at ks j < at ks i → New j) → Dec (i ≡ c) → New i
          go i f (yes q) = subst New (sym q) (own (λ j h. f j (rw q h)))
          go i f (no n) = other i f n (dec_lt (at ks (at l i)) (at ks i))

      -- the link leads to a lesser key
      pub new_lower : at ks r < at ks c → g (root_at ks l r) ≡ g (root_at ks l c) → (i : ℕ) → New i
      new_lower lo e =
          let q : at (set l c r) c ≡ r = at_set_same l c r here in
          let k : at ks (at (set l c r) c) < at ks c = rw q lo in
          new_link (λ f. root_up (set l c r) c k ∙ ap (root_at ks (set l c r)) q ∙ f r lo ∙ e)

    -- ---- a root that gets a link to itself stays one
    pub own_link : (c : ℕ) → root_at ks l c ≡ c → c < length l → (i : ℕ) → root_at ks (set l c c) i ≡ root_at ks l i
    own_link c top here =
        let q : at (set l c c) c ≡ c = at_set_same l c c here in
        let k : at ks c ≤ at ks (at (set l c c) c) = rw q (omega arith) in
        new_link c c (λ z. z) (λ i n. refl) here (λ f. root_top (set l c c) c k ∙ sym top)
