-- A key and its value say the same; a key's number is its first place, so that equal keys have equal numbers, and what is written at a number is
-- read at every place of its key and at no other.
use mathlib.Core.Path.{◌≡◌, refl, sym, ap, ap₂, ◌∙◌}
use mathlib.Core.Bool.{Bool, true, false, cond, not, ◌&&◌}
use mathlib.Core.List.{List, [], ◌∷◌, map}
use Prim.Native.Nat.{ℕ, zero, suc, ◌+◌, ◌*◌, ◌-◌, ◌/◌, ◌%◌, ◌≤◌, ◌<◌}
use native.Mathlib.Decide.{ℕ_discrete}
use native.Mathlib.Omega.{arith}
use lib.Dec.{eqb}
use lib.ListN.{length, get_or, set, replicate, length-map, length-set, length-replicate, get_or-replicate}
use lib.Seq.{ext_get_or, get_or-set_same, get_or-set_other}
use borrow.Author.Tests.{eqb-true, eqb-false, eq-eqb, ne_eqb, not-true}
use Rattle.definition.specs.Values.{Value, value, eqv}
use Rattle.definition.specs.Lists.{at}
use Rattle.definition.proofs.Bools.{by_test, is_false, eqb_swap}
use Rattle.definition.proofs.Equal.{eqv_true, eqv_refl}
use Rattle.places.specs.Keys.{key_of, value_of, keyed}
use Rattle.values.specs.Tables.{first_of, number_of, numbers_of, entry, tabled, numbered, table}
use Rattle.values.proofs.Ranges.{map_length, at_below}

-- ---- keys and values
pub key_not_0 : (v : Value) → key_of v ≡ 0 → ⊥
unfolding key_of
key_not_0 v e = omega arith

pub decode : (r n : ℕ) → n < 4294967296 → value_of (key_of (value r n)) ≡ value r n
unfolding key_of value_of
decode r n h =
    let p : (1 + (4294967296 * r + n) - 1) / 4294967296 ≡ r = omega arith in
    let q : (1 + (4294967296 * r + n) - 1) % 4294967296 ≡ n = omega arith in
    ap₂ value p q

pub encode : (k : ℕ) → (k ≡ 0 → ⊥) → key_of (value_of k) ≡ k
unfolding key_of value_of
encode k h =
    let p : 0 < k = omega (arith, h) in
    omega arith

pub eqv_swap : (v w : Value) → eqv v w ≡ eqv w v
unfolding eqv
eqv_swap v w = ap₂ (λ (a b : Bool). a && b) (eqb_swap v.reg w.reg) (eqb_swap v.ver w.ver)

pub eqv_keys : (a b : ℕ) → (a ≡ 0 → ⊥) → (b ≡ 0 → ⊥) → eqv (value_of a) (value_of b) ≡ eqb a b
eqv_keys a b h k = go (ℕ_discrete a b)
  where
    go : Dec (a ≡ b) → eqv (value_of a) (value_of b) ≡ eqb a b
    go (yes e) = rw e (eqv_refl (value_of b) ∙ sym (eq-eqb b b refl))
    go (no n) =
        is_false (eqv (value_of a) (value_of b)) (λ e. n (sym (encode a h) ∙ ap key_of (eqv_true (value_of a) (value_of b) e) ∙ encode b k))
        ∙ sym (ne_eqb a b n)

-- ---- the first place of a key
first_before : (ks : List ℕ) (k p : ℕ) → p < length ks → at ks p ≡ k → first_of ks k ≤ p
unfolding first_of at
first_before [] k p h e = absurd (omega arith)
first_before (x ∷ xs) k zero h e = rw (eq-eqb x k e) (omega arith)
first_before (x ∷ xs) k (suc p) h e =
    let r = first_before xs k p (omega arith) e in
    by_test (eqb x k) (λ t. rw t (omega arith)) (λ t. rw t (omega arith))

-- the key stands there
pub first_is_lem : (ks : List ℕ) (k : ℕ) → first_of ks k < length ks → at ks (first_of ks k) ≡ k
unfolding first_of at
first_is_lem [] k h = absurd (omega arith)
first_is_lem (x ∷ xs) k h = go (first_is_lem xs k) (eqb x k) refl h
  where
    go : (first_of xs k < length xs → get_or xs (first_of xs k) 0 ≡ k)
        → (b : Bool) → eqb x k ≡ b → cond b 0 (suc (first_of xs k)) < suc (length xs) → get_or (x ∷ xs) (cond b 0 (suc (first_of xs k))) 0 ≡ k
    go rest true e l = eqb-true x k e
    go rest false e l = rest (omega arith)

-- at or before any place of the key
pub first_le : (ks : List ℕ) (p : ℕ) → p < length ks → first_of ks (at ks p) ≤ p
first_le ks p h = first_before ks (at ks p) p h refl

pub first_at : (ks : List ℕ) (p : ℕ) → p < length ks → at ks (first_of ks (at ks p)) ≡ at ks p
first_at ks p h = first_is_lem ks (at ks p) (omega (arith, first_le ks p h))

-- ---- numbers
pub numbers_length : (ks : List ℕ) → length (numbers_of ks) ≡ length ks
unfolding numbers_of
numbers_length ks = length-map ks (number_of ks)

at_mapped : (g : ℕ → ℕ) (l : List ℕ) (p : ℕ) → p < length l → at (map g l) p ≡ g (at l p)
unfolding at
at_mapped g [] p h = absurd (omega arith)
at_mapped g (x ∷ l) zero h = refl
at_mapped g (x ∷ l) (suc p) h = at_mapped g l p (omega arith)

module _ (ks : List ℕ) (p : ℕ) (here : p < length ks) where
  pub number_at : at (numbers_of ks) p ≡ number_of ks (at ks p)
  unfolding numbers_of
  number_at = at_mapped (number_of ks) ks p here

  -- a place that names no value
  pub number_none : at ks p ≡ 0 → at (numbers_of ks) p ≡ 0
  unfolding number_of
  number_none e = number_at ∙ rw (eq-eqb (at ks p) 0 e)

  pub number_first : (at ks p ≡ 0 → ⊥) → at (numbers_of ks) p ≡ first_of ks (at ks p)
  unfolding number_of
  number_first h = number_at ∙ rw (ne_eqb (at ks p) 0 h)

  -- no number is greater than its place
  pub number_le : at (numbers_of ks) p ≤ p
  number_le = go (ℕ_discrete (at ks p) 0)
    where
      go : Dec (at ks p ≡ 0) → at (numbers_of ks) p ≤ p
      go (yes e) = omega (arith, number_none e)
      go (no h) = omega (arith, number_first h, first_le ks p here)

  pub number_below : at (numbers_of ks) p < length ks
  number_below = omega (arith, number_le)

  -- the key at the number
  pub number_key : (at ks p ≡ 0 → ⊥) → at ks (at (numbers_of ks) p) ≡ at ks p
  number_key h = ap (at ks) (number_first h) ∙ first_at ks p here

-- equal numbers, equal keys
pub same_number : (ks : List ℕ) (p q : ℕ) → p < length ks → q < length ks → (at ks p ≡ 0 → ⊥) → (at ks q ≡ 0 → ⊥)
    → eqb (at (numbers_of ks) p) (at (numbers_of ks) q) ≡ eqb (at ks p) (at ks q)
same_number ks p q h k m n = go (ℕ_discrete (at ks p) (at ks q))
  where
    go : Dec (at ks p ≡ at ks q) → eqb (at (numbers_of ks) p) (at (numbers_of ks) q) ≡ eqb (at ks p) (at ks q)
    go (yes e) =
        eq-eqb (at (numbers_of ks) p) (at (numbers_of ks) q) (number_at ks p h ∙ ap (number_of ks) e ∙ sym (number_at ks q k))
        ∙ sym (eq-eqb (at ks p) (at ks q) e)
    go (no d) =
        ne_eqb (at (numbers_of ks) p) (at (numbers_of ks) q) (λ e. d (sym (number_key ks p h m) ∙ ap (at ks) e ∙ number_key ks q k n))
        ∙ sym (ne_eqb (at ks p) (at ks q) d)

-- ---- tables
pub tabled_length : (ks : List ℕ) (g : Value → ℕ) → length (tabled ks g) ≡ length ks
unfolding tabled
tabled_length ks g = map_length (entry ks g) 0 (length ks)

pub tabled_at : (ks : List ℕ) (g : Value → ℕ) (i : ℕ) → i < length ks → at (tabled ks g) i ≡ entry ks g i
unfolding tabled
tabled_at ks g i h = at_below (entry ks g) (length ks) i h

pub at_set_same : (l : List ℕ) (i x : ℕ) → i < length l → at (set l i x) i ≡ x
unfolding at
at_set_same l i x h = get_or-set_same l i x 0 h

pub at_set_other : (l : List ℕ) (i j x : ℕ) → (j ≡ i → ⊥) → at (set l i x) j ≡ at l j
unfolding at
at_set_other l i j x d = get_or-set_other l i j x 0 d

-- tables of one length are equal if they are at every place
pub same_at : (l m : List ℕ) → length l ≡ length m → ((i : ℕ) → i < length l → at l i ≡ at m i) → l ≡ m
unfolding at
same_at l m e h = ext_get_or 0 l m e h

-- entries of two tables, by whether the place is the first of its key
entries : (ks : List ℕ) (g h : Value → ℕ) (i : ℕ)
    → ((at ks i ≡ 0 → ⊥) → first_of ks (at ks i) ≡ i → g (value_of (at ks i)) ≡ h (value_of (at ks i))) → entry ks g i ≡ entry ks h i
unfolding entry
entries ks g h i same = go (not (eqb (at ks i) 0)) (eqb (first_of ks (at ks i)) i) refl refl
  where
    go : (a b : Bool) → not (eqb (at ks i) 0) ≡ a → eqb (first_of ks (at ks i)) i ≡ b
        → cond (a && b) (g (value_of (at ks i))) 0 ≡ cond (a && b) (h (value_of (at ks i))) 0
    go true true e d = same (eqb-false (at ks i) 0 (not-true (eqb (at ks i) 0) e)) (eqb-true (first_of ks (at ks i)) i d)
    go true false e d = refl
    go false b e d = refl

-- at the first place of a key
entry_first : (ks : List ℕ) (g : Value → ℕ) (i k : ℕ) → at ks i ≡ k → (k ≡ 0 → ⊥) → first_of ks k ≡ i → entry ks g i ≡ g (value_of k)
unfolding entry
entry_first ks g i k e h d = rw (e, ne_eqb k 0 h, eq-eqb (first_of ks k) i d)

module _ (ks : List ℕ) (g : Value → ℕ) where
  pub tab_same : (h : Value → ℕ) → ((v : Value) → g v ≡ h v) → tabled ks g ≡ tabled ks h
  tab_same h e =
      same_at (tabled ks g) (tabled ks h) (tabled_length ks g ∙ sym (tabled_length ks h))
      (λ i b.
      let c : i < length ks = omega (arith, tabled_length ks g) in
      tabled_at ks g i c ∙ entries ks g h i (λ m n. e (value_of (at ks i))) ∙ sym (tabled_at ks h i c))

  module _ (p r n : ℕ) (here : p < length ks) (is : at ks p ≡ key_of (value r n)) (small : n < 4294967296) where
    named : at ks p ≡ 0 → ⊥
    named e = key_not_0 (value r n) (sym is ∙ e)

    number : at (numbers_of ks) p ≡ first_of ks (key_of (value r n))
    number = number_first ks p here named ∙ ap (first_of ks) is

    there : at ks (first_of ks (key_of (value r n))) ≡ key_of (value r n)
    there = ap (λ (k : ℕ). at ks (first_of ks k)) (sym is) ∙ first_at ks p here ∙ is

    below : first_of ks (key_of (value r n)) < length ks
    below = omega (arith, number, number_below ks p here)

    first_entry : (h : Value → ℕ) → entry ks h (first_of ks (key_of (value r n))) ≡ h (value r n)
    first_entry h =
        entry_first ks h (first_of ks (key_of (value r n))) (key_of (value r n)) there (key_not_0 (value r n)) refl ∙ ap h (decode r n small)

    pub tab_read : at (tabled ks g) (at (numbers_of ks) p) ≡ g (value r n)
    tab_read = ap (at (tabled ks g)) number ∙ tabled_at ks g (first_of ks (key_of (value r n))) below ∙ first_entry g

    pub tab_write : (x : ℕ) → set (tabled ks g) (at (numbers_of ks) p) x ≡ tabled ks (λ w. cond (eqv (value r n) w) x (g w))
    tab_write x =
        same_at (set (tabled ks g) (at (numbers_of ks) p) x) (tabled ks h) (omega (arith, length-set (tabled ks g) (at (numbers_of ks) p) x, tabled_length ks g, tabled_length ks h))
        (λ i b. place i (omega (arith, length-set (tabled ks g) (at (numbers_of ks) p) x, tabled_length ks g)) (ℕ_discrete i (first_of ks (key_of (value r n)))))
      where
        h : Value → ℕ
        h w = cond (eqv (value r n) w) x (g w)

        other : (i : ℕ) → (i ≡ first_of ks (key_of (value r n)) → ⊥) → (at ks i ≡ 0 → ⊥) → first_of ks (at ks i) ≡ i → g (value_of (at ks i)) ≡ h (value_of (at ks i))
        other i d m e =
            let apart : key_of (value r n) ≡ at ks i → ⊥ = (λ q. d (sym e ∙ ap (first_of ks) (sym q))) in
            let no : eqv (value r n) (value_of (at ks i)) ≡ false =
            ap (λ (v : Value). eqv v (value_of (at ks i))) (sym (decode r n small))
            ∙ eqv_keys (key_of (value r n)) (at ks i) (key_not_0 (value r n)) m ∙ ne_eqb (key_of (value r n)) (at ks i) apart in
            sym (ap (λ (b : Bool). cond b x (g (value_of (at ks i)))) no)

        place : (i : ℕ) → i < length ks → Dec (i ≡ first_of ks (key_of (value r n))) → at (set (tabled ks g) (at (numbers_of ks) p) x) i ≡ at (tabled ks h) i
        place i b (yes e) =
            rw (number, e)
            (at_set_same (tabled ks g) (first_of ks (key_of (value r n))) x (omega (arith, below, tabled_length ks g))
            ∙ sym (tabled_at ks h (first_of ks (key_of (value r n))) below ∙ first_entry h ∙ ap (λ (b : Bool). cond b x (g (value r n))) (eqv_refl (value r n))))
        place i b (no d) =
            rw number
            (at_set_other (tabled ks g) (first_of ks (key_of (value r n))) i x d
            ∙ tabled_at ks g i b ∙ entries ks g h i (other i d) ∙ sym (tabled_at ks h i b))

pub tab_zero : (ks : List ℕ) → tabled ks (λ v. 0) ≡ replicate (length ks) 0
unfolding entry at
tab_zero ks =
    same_at (tabled ks (λ v. 0)) (replicate (length ks) 0) (tabled_length ks (λ v. 0) ∙ sym (length-replicate (length ks) 0))
    (λ i b.
    let c : i < length ks = omega (arith, tabled_length ks (λ v. 0)) in
    tabled_at ks (λ v. 0) i c ∙ zeros (not (eqb (at ks i) 0) && eqb (first_of ks (at ks i)) i) ∙ sym (get_or-replicate (length ks) i 0 0 c))
  where
    zeros : (b : Bool) → ◌≡◌ {A = ℕ} (cond b 0 0) 0
    zeros true = refl
    zeros false = refl

-- ---- the same of a file's places, in scratch of n numbers
-- place p names the value v
pub record Names (f : List ℕ) (n p : ℕ) (v : Value) : Type 0 where
  pub here : p < length (keyed f n)
  pub is : at (keyed f n) p ≡ key_of v
  pub small : v.ver < 4294967296

module _ (f : List ℕ) (n : ℕ) where
  pub numbered_length : length (numbered f n) ≡ length (keyed f n)
  unfolding numbered
  numbered_length = numbers_length (keyed f n)

  -- numbers made of the keys
  pub numbered_from : (ks ns : List ℕ) → ks ≡ keyed f n → ns ≡ numbers_of ks → ns ≡ numbered f n
  unfolding numbered
  numbered_from ks ns p q = q ∙ ap numbers_of p

  pub same_numbered : (p q : ℕ) → p < length (keyed f n) → q < length (keyed f n) → (at (keyed f n) p ≡ 0 → ⊥) → (at (keyed f n) q ≡ 0 → ⊥)
      → eqb (at (numbered f n) p) (at (numbered f n) q) ≡ eqb (at (keyed f n) p) (at (keyed f n) q)
  unfolding numbered
  same_numbered = same_number (keyed f n)

  pub table_zero : table f n (λ v. 0) ≡ replicate (length (keyed f n)) 0
  unfolding table
  table_zero = tab_zero (keyed f n)

  pub zeros_are : length (keyed f n) ≡ n → replicate n 0 ≡ table f n (λ v. 0)
  zeros_are long = sym (table_zero ∙ ap (λ (k : ℕ). replicate k 0) long)

  module _ (p : ℕ) (here : p < length (keyed f n)) where
    pub numbered_at : at (numbered f n) p ≡ number_of (keyed f n) (at (keyed f n) p)
    unfolding numbered
    numbered_at = number_at (keyed f n) p here

    pub numbered_below : at (numbered f n) p < length (keyed f n)
    unfolding numbered
    numbered_below = number_below (keyed f n) p here

  module _ (g : Value → ℕ) where
    pub table_length : length (table f n g) ≡ length (keyed f n)
    unfolding table
    table_length = tabled_length (keyed f n) g

    pub table_same : (h : Value → ℕ) → ((v : Value) → g v ≡ h v) → table f n g ≡ table f n h
    unfolding table
    table_same = tab_same (keyed f n) g

    module _ (p : ℕ) (v : Value) (by : Names f n p v) where
      pub table_read : at (table f n g) (at (numbered f n) p) ≡ g v
      unfolding table numbered
      table_read = tab_read (keyed f n) g p v.reg v.ver by.here by.is by.small

      pub table_write : (x : ℕ) → set (table f n g) (at (numbered f n) p) x ≡ table f n (λ w. cond (eqv v w) x (g w))
      unfolding table numbered
      table_write = tab_write (keyed f n) g p v.reg v.ver by.here by.is by.small
