-- A table by place begins with the table of the file's own places, and zeros follow: the keys behind those places are 0, so that first places, and with
-- them numbers and entries, are what they are in the front. So of tables of zeros only the fronts need be lent.
use mathlib.Core.Path.{◌≡◌, refl, sym, ap, ap₂, subst, ◌∙◌}
use mathlib.Core.Bool.{Bool, true, false, cond, not, ◌&&◌}
use mathlib.Core.List.{List, [], ◌∷◌, ◌++◌, append_assoc}
use Prim.Native.Nat.{ℕ, suc, ◌+◌, ◌-◌, ◌≤◌, ◌<◌}
use native.Mathlib.Decide.{dec_lt}
use native.Mathlib.Omega.{arith}
use lib.Dec.{eqb}
use lib.ListN.{length, get_or, take, drop, replicate, length-append, length-replicate, replicate-append-replicate}
use lib.Seq.{take_at, drop_at}
use mir.Syntax.{w8}
use mir.Val.{Fits}
use borrow.Author.Tests.{eq-eqb, eqb-false, not-true}
use Rattle.definition.specs.Edition.{Edition}
use Rattle.definition.specs.Shape.{owned}
use Rattle.definition.specs.Values.{Value}
use Rattle.definition.specs.Read.{read}
use Rattle.definition.specs.Classes.{find, classes}
use Rattle.definition.specs.Listing.{padded}
use Rattle.definition.specs.Lists.{at}
use Rattle.definition.proofs.Bools.{by_test}
use Rattle.places.specs.Keys.{key_of, value_of, keys_of, places_of, keyed}
use Rattle.values.specs.Tables.{first_of, number_of, numbers_of, entry, tabled, numbered, table}
use Rattle.values.proofs.Ranges.{at_left, at_right, zeros_at}
use Rattle.values.proofs.Tables.{encode, first_le, number_at, number_none, numbers_length, tabled_length, same_at, numbered_length, table_length, tabled_at, Names}
use Rattle.values.proofs.Placed.{places_length, keyed_length}
use Rattle.names.proofs.Rooted.{rooted}

-- ---- zeros in two parts
zeros_parts : (n m : ℕ) → n ≤ m → replicate {A = ℕ} m 0 ≡ replicate n 0 ++ replicate (m - n) 0
zeros_parts n m h =
    let p : m ≡ n + (m - n) = omega arith in
    ap (λ (k : ℕ). replicate k 0) p ∙ sym (replicate-append-replicate n (m - n) 0)

zeros_join : (a n m : ℕ) → a ≤ n → n ≤ m → (replicate {A = ℕ} (n - a) 0 ++ replicate (m - n) 0) ≡ replicate (m - a) 0
zeros_join a n m h k =
    let p : n - a + (m - n) ≡ m - a = omega arith in
    replicate-append-replicate (n - a) (m - n) 0 ∙ ap (λ (j : ℕ). replicate j 0) p

module _ (n m : ℕ) (h : n ≤ m) (l : List ℕ) (e : l ≡ replicate m 0) where
  pub front_zeros : take n l ≡ replicate n 0
  front_zeros = ap (take n) (e ∙ zeros_parts n m h) ∙ take_at (replicate n 0) (replicate (m - n) 0) n (length-replicate n 0)

  pub rest_zeros : drop n l ≡ replicate (m - n) 0
  rest_zeros = ap (drop n) (e ∙ zeros_parts n m h) ∙ drop_at (replicate n 0) (replicate (m - n) 0) n (length-replicate n 0)

  -- the whole, with its front as zeros again
  pub back_zeros : (x : List ℕ) → x ≡ replicate n 0 → (x ++ drop n l) ≡ replicate m 0
  back_zeros x p = ap₂ (λ (a b : List ℕ). a ++ b) p rest_zeros ∙ sym (zeros_parts n m h)

-- ---- keys with zeros behind them
first_front : (xs ys : List ℕ) (k : ℕ) → first_of xs k < length xs → first_of (xs ++ ys) k ≡ first_of xs k
unfolding first_of
first_front [] ys k h = absurd (omega arith)
first_front (x ∷ xs) ys k h = go (first_front xs ys k) (eqb x k) refl h
  where
    go : (first_of xs k < length xs → first_of (xs ++ ys) k ≡ first_of xs k)
        → (b : Bool) → eqb x k ≡ b → cond b 0 (suc (first_of xs k)) < suc (length xs) → cond b 0 (suc (first_of (xs ++ ys) k)) ≡ cond b 0 (suc (first_of xs k))
    go rest true e l = refl
    go rest false e l = ap suc (rest (omega arith))

module _ (z : ℕ) where
  abbrev zs : List ℕ
  zs = replicate z 0

  at_rest : (l : List ℕ) (i : ℕ) → length l ≤ i → at (l ++ zs) i ≡ 0
  at_rest l i h =
      let e : i ≡ length l + (i - length l) = omega arith in
      ap (at (l ++ zs)) e ∙ at_right l zs (length l) (i - length l) refl ∙ zeros_at z (i - length l)

  module _ (ks : List ℕ) where
    abbrev more : List ℕ
    more = ks ++ zs

    more_long : length more ≡ length ks + z
    more_long = length-append ks zs ∙ ap (λ (k : ℕ). length ks + k) (length-replicate z 0)

    -- a table of the front with zeros behind it is one of all places, where it is one in the front and zeros behind
    whole : (l m : List ℕ) → length l ≡ length ks → length m ≡ length more → ((i : ℕ) → i < length ks → at l i ≡ at m i)
        → ((i : ℕ) → length ks ≤ i → i < length more → at m i ≡ 0) → (l ++ zs) ≡ m
    whole l m a b front rest =
        same_at (l ++ zs) m (omega (arith, length-append l zs, length-replicate {A = ℕ} z 0, more_long))
        (λ i c. go i (omega (arith, length-append l zs, length-replicate {A = ℕ} z 0, more_long)) (dec_lt i (length ks)))
      where
        go : (i : ℕ) → i < length more → Dec (i < length ks) → at (l ++ zs) i ≡ at m i
        go i c (yes h) = at_left l zs i (omega (arith, a)) ∙ front i h
        go i c (no h) = at_rest l i (omega (arith, a)) ∙ sym (rest i (omega arith) c)

    -- a key of the front, and its first place
    module _ (p : ℕ) (h : p < length ks) where
      key_same : at more p ≡ at ks p
      key_same = at_left ks zs p h

      first_same : first_of more (at ks p) ≡ first_of ks (at ks p)
      first_same = first_front ks zs (at ks p) (omega (arith, first_le ks p h))

    number_same : (i : ℕ) → i < length ks → number_of ks (at ks i) ≡ number_of more (at more i)
    unfolding number_of
    number_same i h = rw (key_same i h, first_same i h) refl

    numbers_front : (numbers_of ks ++ zs) ≡ numbers_of more
    numbers_front =
        whole (numbers_of ks) (numbers_of more) (numbers_length ks) (numbers_length more)
        (λ i h. number_at ks i h ∙ number_same i h ∙ sym (number_at more i (omega (arith, more_long))))
        (λ i h k. number_none more i k (at_rest ks i h))

    -- entries of g in the front, and of h in all, where these say the same of every value in the front
    module _ (g h : Value → ℕ) (says : (p : ℕ) → p < length ks → (at ks p ≡ 0 → ⊥) → g (value_of (at ks p)) ≡ h (value_of (at ks p))) where
      entry_same : (p : ℕ) → p < length ks → entry ks g p ≡ entry more h p
      unfolding entry
      entry_same p b =
          rw (key_same p b, first_same p b)
          (by_test (not (eqb (at ks p) 0))
          (λ e. ap (λ (x : ℕ). cond (not (eqb (at ks p) 0) && eqb (first_of ks (at ks p)) p) x 0) (says p b (eqb-false (at ks p) 0 (not-true (eqb (at ks p) 0) e))))
          (λ e. rw e refl))

      entry_rest : (p : ℕ) → length ks ≤ p → entry more h p ≡ 0
      unfolding entry
      entry_rest p b = rw (eq-eqb (at more p) 0 (at_rest ks p b)) refl

      tabled_front : (tabled ks g ++ zs) ≡ tabled more h
      tabled_front =
          whole (tabled ks g) (tabled more h) (tabled_length ks g) (tabled_length more h)
          (λ i b. tabled_at ks g i b ∙ entry_same i b ∙ sym (tabled_at more h i (omega (arith, more_long))))
          (λ i b c. tabled_at more h i c ∙ entry_rest i b)

-- ---- the tables of a file
small : (k : ℕ) → (value_of k).ver < 4294967296
unfolding value_of
small k = omega arith

module _ (f : List ℕ) (own : owned f ≡ true) (n m : ℕ) (room : (places_of f).total ≤ n) (few : n ≤ m) where
  keyed_front : (keyed f n ++ replicate (m - n) 0) ≡ keyed f m
  unfolding keyed padded
  keyed_front =
      append_assoc (keys_of f) (replicate (n - length (keys_of f)) 0) (replicate (m - n) 0)
      ∙ ap (λ (l : List ℕ). keys_of f ++ l) (zeros_join (length (keys_of f)) n m (omega (arith, places_length f own)) few)

  pub numbered_front : (numbered f n ++ replicate (m - n) 0) ≡ numbered f m
  unfolding numbered
  numbered_front = numbers_front (m - n) (keyed f n) ∙ ap numbers_of keyed_front

  table_by : (g h : Value → ℕ)
      → ((p : ℕ) → p < length (keyed f n) → (at (keyed f n) p ≡ 0 → ⊥) → g (value_of (at (keyed f n) p)) ≡ h (value_of (at (keyed f n) p)))
      → (table f n g ++ replicate (m - n) 0) ≡ table f m h
  unfolding table
  table_by g h says = tabled_front (m - n) (keyed f n) g h says ∙ ap (λ (ks : List ℕ). tabled ks h) keyed_front

  pub table_front : (g : Value → ℕ) → (table f n g ++ replicate (m - n) 0) ≡ table f m g
  table_front g = table_by g g (λ p b d. refl)

  -- a key that the front has
  number_front : (k q : ℕ) → q < length (keyed f n) → at (keyed f n) q ≡ k → number_of (keyed f n) k ≡ number_of (keyed f m) k
  unfolding number_of
  number_front k q h e =
      let b : first_of (keyed f n) k ≤ q = subst (λ (x : ℕ). first_of (keyed f n) x ≤ q) e (first_le (keyed f n) q h) in
      ap (λ (x : ℕ). cond (eqb k 0) 0 x)
      (sym (ap (λ (ks : List ℕ). first_of ks k) (sym keyed_front) ∙ first_front (keyed f n) (replicate (m - n) 0) k (omega arith)))

  -- a class's root is named somewhere in the file
  pub roots_front : ((j : ℕ) → Fits w8 (get_or f j 0)) → (E : Edition)
      → (table f n (λ v. number_of (keyed f n) (key_of (find (classes (read E f)) v))) ++ replicate (m - n) 0)
      ≡ table f m (λ v. number_of (keyed f m) (key_of (find (classes (read E f)) v)))
  roots_front bytes E =
      table_by (λ v. number_of (keyed f n) (key_of (find (classes (read E f)) v))) (λ v. number_of (keyed f m) (key_of (find (classes (read E f)) v))) same
    where
      same : (p : ℕ) → p < length (keyed f n) → (at (keyed f n) p ≡ 0 → ⊥)
          → number_of (keyed f n) (key_of (find (classes (read E f)) (value_of (at (keyed f n) p))))
          ≡ number_of (keyed f m) (key_of (find (classes (read E f)) (value_of (at (keyed f n) p))))
      same p b d =
          let k = at (keyed f n) p in
          let by : Names f n p (value_of k) = record { here = b; is = sym (encode k d); small = small k } in
          let to = rooted f bytes own n room E p (value_of k) by in
          number_front (key_of (find (classes (read E f)) (value_of k))) to.0 to.1.here to.1.is

  -- what stands behind the front, and the whole with its front emptied
  emptied_by : (l t : List ℕ) → length l ≡ n → (l ++ replicate (m - n) 0) ≡ t → (replicate n 0 ++ drop n t) ≡ replicate m 0
  emptied_by l t e p =
      ap (λ (x : List ℕ). replicate n 0 ++ x) (ap (drop n) (sym p) ∙ drop_at l (replicate (m - n) 0) n e) ∙ sym (zeros_parts n m few)

  pub numbered_emptied : (replicate n 0 ++ drop n (numbered f m)) ≡ replicate m 0
  numbered_emptied = emptied_by (numbered f n) (numbered f m) (numbered_length f n ∙ keyed_length f n own room) numbered_front

  pub table_emptied : (g : Value → ℕ) → (replicate n 0 ++ drop n (table f m g)) ≡ replicate m 0
  table_emptied g = emptied_by (table f n g) (table f m g) (table_length f n g ∙ keyed_length f n own room) (table_front g)
