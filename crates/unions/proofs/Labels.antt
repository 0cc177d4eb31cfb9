-- The tables of roots that links give, and what find, union, reset and flatten do to them.
use mathlib.Core.Path.{◌≡◌, refl, sym, ap, subst, ◌∙◌}
use mathlib.Core.Bool.{true, false, cond}
use mathlib.Core.List.{List, [], ◌∷◌, map}
use Prim.Native.Nat.{ℕ, zero, suc, ◌+◌, ◌≤◌, ◌<◌}
use native.Mathlib.Omega.{arith}
use native.Mathlib.Decide.{dec_lt, ℕ_discrete}
use lib.ListN.{length, set, length-set, length-map}
use lib.Seq.{set_out}
use lib.Dec.{eqb, ltb}
use borrow.Author.Tests.{lt-ltb, le-ltb, eq-eqb, ne_eqb, ltb-true, ltb-false}
use Rattle.definition.proofs.Bools.{by_test, by_cond}
use Rattle.definition.specs.Lists.{range, at}
use Rattle.records.proofs.Editions.{length_range}
use Rattle.values.proofs.Tables.{at_set_same, at_set_other, same_at}
use Rattle.values.proofs.Ranges.{map_length, at_below}
use Rattle.definition.proofs.ListLaws.{at_out}
use Rattle.unions.specs.Roots.{under, root_at, roots_of, linked, renamed, merged, root_in, join}
use Rattle.unions.proofs.Forest.{root_up, root_top, root_le, root_root, new_lower, own_link}

-- ---- tables
pub at_range : (n i : ℕ) → i < n → at (range 0 n) i ≡ i
at_range n i h = ap (λ (l : List ℕ). at l i) (sym (mapped (range 0 n))) ∙ at_below (λ z. z) n i h
  where
    mapped : (l : List ℕ) → map (λ z. z) l ≡ l
    mapped [] = refl
    mapped (x ∷ l) = ap (λ (m : List ℕ). x ∷ m) (mapped l)

pub at_renamed : (x y : ℕ) (t : List ℕ) (i : ℕ) → i < length t → at (renamed x y t) i ≡ cond (eqb (at t i) x) y (at t i)
unfolding renamed at
at_renamed x y [] i h = absurd (omega arith)
at_renamed x y (z ∷ t) zero h = refl
at_renamed x y (z ∷ t) (suc i) h = at_renamed x y t i (omega arith)

renamed_length : (x y : ℕ) (t : List ℕ) → length (renamed x y t) ≡ length t
unfolding renamed
renamed_length x y t = length-map t (λ z. cond (eqb z x) y z)

pub join_length : (ks t : List ℕ) (a b : ℕ) → length (join ks t a b) ≡ length t
unfolding join merged
join_length ks t a b =
    by_cond (λ (l : List ℕ). length l ≡ length t) (under ks (root_in t b) (root_in t a)) (λ h. renamed_length (root_in t a) (root_in t b) t)
    (λ g. by_cond (λ (l : List ℕ). length l ≡ length t) (under ks (root_in t a) (root_in t b)) (λ h. renamed_length (root_in t b) (root_in t a) t) (λ h. refl))

module _ (ks : List ℕ) where
  pub roots_length : (l : List ℕ) → length (roots_of ks l) ≡ length l
  unfolding roots_of
  roots_length l = map_length (root_at ks l) 0 (length l)

  pub roots_at : (l : List ℕ) (i : ℕ) → i < length l → at (roots_of ks l) i ≡ root_at ks l i
  unfolding roots_of
  roots_at l i h = at_below (root_at ks l) (length l) i h

  -- a place that has no key is its own root
  root_outside : (l : List ℕ) (i : ℕ) → at ks i ≡ 0 → root_at ks l i ≡ i
  root_outside l i e = root_top ks l i (omega arith)

  -- the roots of all numbers, from the table
  pub roots_in : (l : List ℕ) (i : ℕ) → length ks ≡ length l → root_in (roots_of ks l) i ≡ root_at ks l i
  unfolding root_in
  roots_in l i e = go (dec_lt i (length l))
    where
      go : Dec (i < length l) → cond (ltb i (length (roots_of ks l))) (at (roots_of ks l) i) i ≡ root_at ks l i
      go (yes h) = let s : i < length (roots_of ks l) = omega (arith, roots_length l) in rw (lt-ltb i (length (roots_of ks l)) s) (roots_at l i h)
      go (no h) =
          let s : length (roots_of ks l) ≤ i = omega (arith, roots_length l) in
          rw (le-ltb i (length (roots_of ks l)) s) (sym (root_outside l i (sym (at_out ks i (omega arith)))))

  pub roots_same : (l m : List ℕ) → length l ≡ length m → ((i : ℕ) → root_at ks l i ≡ root_at ks m i) → roots_of ks l ≡ roots_of ks m
  roots_same l m e f =
      same_at (roots_of ks l) (roots_of ks m) (roots_length l ∙ e ∙ sym (roots_length m))
      (λ i h.
      let k : i < length l = omega (arith, roots_length l) in
      roots_at l i k ∙ f i ∙ sym (roots_at m i (omega arith)))

  -- what the test of a link says
  up : (l : List ℕ) (c p : ℕ) → p ≡ at l c → under ks p c ≡ true → at ks (at l c) < at ks c
  unfolding under
  up l c p q h = subst (λ (z : ℕ). at ks z < at ks c) q (ltb-true (at ks p) (at ks c) h)

  -- ---- find
  pub top_turn : (l : List ℕ) (x r p : ℕ) → root_at ks l x ≡ root_at ks l r → p ≡ at l r → under ks p r ≡ true → root_at ks l x ≡ root_at ks l p
  top_turn l x r p e q h = e ∙ root_up ks l r (up l r p q h) ∙ ap (root_at ks l) (sym q)

  pub top_end : (l : List ℕ) (x r p : ℕ) → root_at ks l x ≡ root_at ks l r → p ≡ at l r → under ks p r ≡ false → r ≡ root_at ks l x
  unfolding under
  top_end l x r p e q h = sym (e ∙ root_top ks l r (subst (λ (z : ℕ). at ks r ≤ at ks z) q (ltb-false (at ks p) (at ks r) h)))

  module _ (l : List ℕ) (c r p : ℕ) (q : p ≡ at l c) (h : under ks p c ≡ true) (e : r ≡ root_at ks l c) where
    up_is : root_at ks l c ≡ root_at ks l p
    up_is = root_up ks l c (up l c p q h) ∙ ap (root_at ks l) (sym q)

    short_roots : (i : ℕ) → root_at ks (set l c r) i ≡ root_at ks l i
    short_roots i = go (dec_lt c (length l))
      where
        go : Dec (c < length l) → root_at ks (set l c r) i ≡ root_at ks l i
        go (yes g) =
            let a : at ks r ≤ at ks (at l c) = rw (e, up_is, q) (root_le ks l (at l c)) in
            let lo : at ks r < at ks c = omega (arith, up l c p q h) in
            new_lower ks l c r (λ z. z) (λ j n. refl) g lo (ap (root_at ks l) e ∙ root_root ks l c) i
        go (no g) = ap (λ (w : List ℕ). root_at ks w i) (set_out l c r (omega arith))

    pub short_table : (l' : List ℕ) → l' ≡ set l c r → roots_of ks l' ≡ roots_of ks l
    short_table l' s = ap (roots_of ks) s ∙ roots_same (set l c r) l (length-set l c r) short_roots

    pub short_on : (l' : List ℕ) → l' ≡ set l c r → r ≡ root_at ks l' p
    short_on l' s = e ∙ up_is ∙ sym (ap (λ (w : List ℕ). root_at ks w p) s ∙ short_roots p)

  -- ---- union
  pub link_down : (l m : List ℕ) (x y : ℕ) → under ks y x ≡ true → m ≡ set l x y → m ≡ linked ks l x y
  unfolding linked
  link_down l m x y h e = rw h e

  pub link_up : (l m : List ℕ) (x y : ℕ) → under ks y x ≡ false → under ks x y ≡ true → m ≡ set l y x → m ≡ linked ks l x y
  unfolding linked
  link_up l m x y g h e = rw (g, h) e

  pub link_none : (l : List ℕ) (x y : ℕ) → under ks y x ≡ false → under ks x y ≡ false → l ≡ linked ks l x y
  unfolding linked
  link_none l x y g h = rw (g, h)

  module _ (l : List ℕ) (long : length ks ≡ length l) where
    -- root x gets a link to root y
    link_table : (x y : ℕ) → root_at ks l x ≡ x → root_at ks l y ≡ y → under ks y x ≡ true → roots_of ks (set l x y) ≡ renamed x y (roots_of ks l)
    unfolding under
    link_table x y a b h =
        let k : at ks y < at ks x = ltb-true (at ks y) (at ks x) h in
        let inside : x < length l = by_length x (omega arith) in
        same_at (roots_of ks (set l x y)) (renamed x y (roots_of ks l))
        (roots_length (set l x y) ∙ length-set l x y ∙ sym (renamed_length x y (roots_of ks l) ∙ roots_length l))
        (λ i g.
        let m : i < length l = omega (arith, roots_length (set l x y), length-set l x y) in
        let n : i < length (set l x y) = omega (arith, length-set l x y) in
        roots_at (set l x y) i n
        ∙ new_lower ks l x y gives still inside k (ap gives b ∙ still y (λ e. omega (arith, ap (at ks) e)) ∙ sym (ap gives a ∙ own)) i
        ∙ sym (at_renamed x y (roots_of ks l) i (omega (arith, roots_length l)) ∙ ap gives (roots_at l i m)))
      where
        gives : ℕ → ℕ
        gives z = cond (eqb z x) y z

        still : (i : ℕ) → (i ≡ x → ⊥) → gives i ≡ i
        still i n = rw (ne_eqb i x n)

        own : gives x ≡ y
        own = rw (eq-eqb x x refl)

        by_length : (x : ℕ) → 0 < at ks x → x < length l
        by_length x h = go (dec_lt x (length ks))
          where
            go : Dec (x < length ks) → x < length l
            go (yes k) = omega arith
            go (no k) = absurd (omega (arith, at_out ks x (omega arith)))

    linked_table : (x y : ℕ) → root_at ks l x ≡ x → root_at ks l y ≡ y → roots_of ks (linked ks l x y) ≡ merged ks x y (roots_of ks l)
    unfolding linked merged
    linked_table x y a b =
        by_test (under ks y x) (λ h. rw h (link_table x y a b h))
        (λ g. by_test (under ks x y) (λ h. rw (g, h) (link_table y x b a h)) (λ h. rw (g, h)))

  -- roots that agree
  pub same_root : (l m : List ℕ) (i : ℕ) → length ks ≡ length l → length l ≡ length m → roots_of ks l ≡ roots_of ks m → root_at ks l i ≡ root_at ks m i
  same_root l m i k e h = sym (roots_in l i k) ∙ ap (λ (t : List ℕ). root_in t i) h ∙ roots_in m i (k ∙ e)

  pub union_is : (l l₁ l₂ l₃ : List ℕ) (a b x y : ℕ) → length ks ≡ length l → length l₁ ≡ length l → length l₂ ≡ length l₁
      → (x ≡ root_at ks l a) × (roots_of ks l₁ ≡ roots_of ks l) → (y ≡ root_at ks l₁ b) × (roots_of ks l₂ ≡ roots_of ks l₁)
      → l₃ ≡ linked ks l₂ x y → roots_of ks l₃ ≡ join ks (roots_of ks l) a b
  unfolding join
  union_is l l₁ l₂ l₃ a b x y k k₁ k₂ (ex, e₁) (ey, e₂) e₃ =
      let e : roots_of ks l₂ ≡ roots_of ks l = e₂ ∙ e₁ in
      let k₃ : length ks ≡ length l₂ = omega arith in
      let qx : x ≡ root_at ks l₂ a = ex ∙ sym (same_root l₂ l a k₃ (omega arith) e) in
      let qy : y ≡ root_at ks l₂ b = ey ∙ sym (same_root l₂ l₁ b k₃ k₂ e₂) in
      let tx : root_at ks l₂ x ≡ x = ap (root_at ks l₂) qx ∙ root_root ks l₂ a ∙ sym qx in
      let ty : root_at ks l₂ y ≡ y = ap (root_at ks l₂) qy ∙ root_root ks l₂ b ∙ sym qy in
      let rx : root_in (roots_of ks l) a ≡ x = roots_in l a k ∙ sym ex in
      let ry : root_in (roots_of ks l) b ≡ y = roots_in l b k ∙ sym (same_root l₁ l b (omega arith) k₁ e₁) ∙ sym ey in
      ap (roots_of ks) e₃ ∙ linked_table l₂ k₃ x y tx ty ∙ rw (rx, ry, e)

  -- ---- the table made flat
  module _ (l : List ℕ) (c r : ℕ) (here : c < length l) (is : r ≡ root_at ks l c) where
    flat_roots : (i : ℕ) → root_at ks (set l c r) i ≡ root_at ks l i
    flat_roots i = go (ℕ_discrete r c)
      where
        go : Dec (r ≡ c) → root_at ks (set l c r) i ≡ root_at ks l i
        go (yes e) = ap (λ (x : ℕ). root_at ks (set l c x) i) e ∙ own_link ks l c (sym is ∙ e) here i
        go (no n) = new_lower ks l c r (λ z. z) (λ j m. refl) here (lower (dec_lt (at ks (at l c)) (at ks c))) (ap (root_at ks l) is ∙ root_root ks l c) i
          where
            lower : Dec (at ks (at l c) < at ks c) → at ks r < at ks c
            lower (yes h) = let a : at ks r ≤ at ks (at l c) = rw (is, root_up ks l c h) (root_le ks l (at l c)) in omega arith
            lower (no h) = absurd (n (is ∙ root_top ks l c (omega arith)))

    pub flat_table : roots_of ks (set l c r) ≡ roots_of ks l
    flat_table = roots_same (set l c r) l (length-set l c r) flat_roots

    pub flat_on : ((j : ℕ) → j < c → at l j ≡ root_at ks l j) → (j : ℕ) → j < c + 1 → at (set l c r) j ≡ root_at ks (set l c r) j
    flat_on f j g = go (ℕ_discrete j c)
      where
        go : Dec (j ≡ c) → at (set l c r) j ≡ root_at ks (set l c r) j
        go (yes q) = ap (at (set l c r)) q ∙ at_set_same l c r here ∙ is ∙ ap (root_at ks l) (sym q) ∙ sym (flat_roots j)
        go (no q) = at_set_other l c j r q ∙ f j (omega arith) ∙ sym (flat_roots j)

  pub flat_end : (l l₀ : List ℕ) (n : ℕ) → length l ≤ n → ((j : ℕ) → j < n → at l j ≡ root_at ks l j) → roots_of ks l ≡ roots_of ks l₀ → l ≡ roots_of ks l₀
  flat_end l l₀ n h f e = same_at l (roots_of ks l) (sym (roots_length l)) (λ i g. f i (omega arith) ∙ sym (roots_at l i g)) ∙ e

  -- where every number's link goes to itself every number is a root
  pub apart_roots : (n : ℕ) → roots_of ks (range 0 n) ≡ range 0 n
  apart_roots n =
      let k : length (range 0 n) ≡ n = length_range 0 n in
      same_at (roots_of ks (range 0 n)) (range 0 n) (roots_length (range 0 n))
      (λ i h.
      let m : i < n = omega (arith, roots_length (range 0 n)) in
      let s : at (range 0 n) i ≡ i = at_range n i m in
      let t : at ks i ≤ at ks (at (range 0 n) i) = rw s (omega arith) in
      roots_at (range 0 n) i (omega arith) ∙ root_top ks (range 0 n) i t ∙ sym s)

-- ---- a table filled place by place
pub fill_end : (g : ℕ → ℕ) (l : List ℕ) (n k : ℕ) → length l ≡ n → n ≤ k → ((j : ℕ) → j < k → at l j ≡ g j) → l ≡ map g (range 0 n)
fill_end g l n k e h f =
    same_at l (map g (range 0 n)) (e ∙ sym (map_length g 0 n)) (λ i m. f i (omega arith) ∙ sym (at_below g n i (omega arith)))

pub map_same : (g h : ℕ → ℕ) (n : ℕ) → ((i : ℕ) → i < n → g i ≡ h i) → map g (range 0 n) ≡ map h (range 0 n)
map_same g h n e = fill_end h (map g (range 0 n)) n n (map_length g 0 n) (omega arith) (λ j k. at_below g n j k ∙ e j k)
