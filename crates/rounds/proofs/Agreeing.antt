-- What values agree on: the code's loop, and which value stands at the place of a definition and of a phi's inputs, so that a phi's inputs agree where
-- what the table says at their places does.
use mathlib.Core.Path.{◌≡◌, refl, sym, ◌∙◌}
use mathlib.Core.Bool.{Bool, true, false, cond, ◌&&◌}
use mathlib.Core.List.{List, map}
use Prim.Native.Nat.{ℕ, zero, suc, ◌+◌, ◌-◌, ◌≤◌, ◌<◌}
use native.Mathlib.Omega.{arith}
use lib.Dec.{eqb}
use lib.ListN.{length, get_or}
use mir.Syntax.{w8}
use mir.Val.{Fits}
use borrow.Author.Tests.{eq-eqb, ne_eqb}
use Rattle.words.proofs.Laws.{word_small}
use Rattle.records.proofs.Below.{sum_part}
use Rattle.records.proofs.Parts.{owned_parts}
use Rattle.definition.specs.Edition.{phis, statements}
use Rattle.definition.specs.Lists.{all_below, all, range}
use Rattle.definition.specs.Contents.{size, phi_word, input_at}
use Rattle.definition.specs.Owners.{stmt_kind, stmt_field, phi_inputs, first_input}
use Rattle.definition.specs.Values.{Value, value}
use Rattle.definition.specs.Offsets.{Known, look, agreed}
use Rattle.places.specs.declared.Places.{Places}
use Rattle.places.specs.Keys.{phi_key, input_key, stmt_key, places_of}
use Rattle.values.specs.Tables.{table}
use Rattle.values.proofs.Placed.{at_phi, at_input, at_stmt, phi_here, stmt_here, input_here}
use Rattle.values.proofs.Tables.{Names}
use Rattle.sums.specs.Ground.{Ground}
use Rattle.sums.specs.Address.{value_at}
use Rattle.sums.proofs.Naming.{inside, names_at, known_at}
use Rattle.rounds.specs.Agreed.{agree_from, agreed_by}

-- ---- what n agree on
module _ (h : ℕ → ℕ) where
  pub agree_none : (n : ℕ) → n ≡ 0 → 0 ≡ agreed_by h n
  unfolding agreed_by
  agree_none n e = rw e

  pub agree_start : (n x : ℕ) → (n ≡ 0 → ⊥) → x ≡ h 0 → agreed_by h n ≡ agree_from h x 0 (n - 0)
  unfolding agreed_by
  agree_start n x p e = let q : n - 0 ≡ n = omega arith in rw (ne_eqb n 0 p, q, e)

  -- the last of one more, where the definition begins with the first
  more_agree : (x i n : ℕ) → agree_from h x i (suc n) ≡ cond (eqb (h (i + n)) x) (agree_from h x i n) 0
  unfolding agree_from
  more_agree x i zero = let e : i + 0 ≡ i = omega arith in rw e
  more_agree x i (suc n) =
      let e : i + 1 + n ≡ i + suc n = omega arith in
      rw (more_agree x (i + 1) n, e) (swap (eqb (h i) x) (eqb (h (i + suc n)) x) (agree_from h x (i + 1) n))
    where
      swap : (b c : Bool) (y : ℕ) → cond b (cond c y 0) 0 ≡ cond c (cond b y 0) 0
      swap true c y = refl
      swap false true y = refl
      swap false false y = refl

  agree_below : (x n : ℕ) → agree_from h x 0 n ≡ cond (all_below n (λ (i : ℕ). eqb (h i) x)) x 0
  unfolding agree_from all_below
  agree_below x zero = refl
  agree_below x (suc n) =
      let e : 0 + n ≡ n = omega arith in
      more_agree x 0 n ∙ rw (e, agree_below x n) (swap (eqb (h n) x) (all_below n (λ (i : ℕ). eqb (h i) x)))
    where
      swap : (b c : Bool) → cond b (cond c x 0) 0 ≡ cond (c && b) x 0
      swap true true = refl
      swap true false = refl
      swap false true = refl
      swap false false = refl

  -- r is whether all have the first one's
  module _ (n x : ℕ) (some : n ≡ 0 → ⊥) (first : x ≡ h 0) (r : Bool) (all : r ≡ all_below n (λ (i : ℕ). eqb (h i) x)) where
    pub agree_both : cond r x 0 ≡ agreed_by h n
    agree_both = let e : n - 0 ≡ n = omega arith in sym (agree_start n x some first ∙ rw e (agree_below x n ∙ rw (← all)))

-- ---- what values agree on, by their places
module _ (f : List ℕ) (k : List Known) (h : ℕ → ℕ) (r a : ℕ) where
  abbrev input : ℕ → Value
  input j = value r (input_at f (a + j))

  agree_all : (x n i : ℕ) → ((j : ℕ) → j < i + n → h j ≡ look k (input j))
      → agree_from h x i n ≡ cond (all (λ w. eqb (look k w) x) (map (value r) (map (input_at f) (range (a + i) n)))) x 0
  unfolding agree_from all range
  agree_all x zero i says = refl
  agree_all x (suc n) i says =
      let p : a + i + 1 ≡ a + (i + 1) = omega arith in
      let next = agree_all x n (i + 1) (λ j b. says j (omega arith)) in
      rw (says i (omega arith), p, next) (both (eqb (look k (input i)) x) (all (λ w. eqb (look k w) x) (map (value r) (map (input_at f) (range (a + (i + 1)) n)))))
    where
      both : (b c : Bool) → cond b (cond c x 0) 0 ≡ cond (b && c) x 0
      both true c = refl
      both false c = refl

  agreed_is : (n : ℕ) → ((j : ℕ) → j < n → h j ≡ look k (input j)) → agreed_by h n ≡ agreed k (map (value r) (map (input_at f) (range a n)))
  unfolding agreed_by agreed agree_from range
  agreed_is zero says = refl
  agreed_is (suc n) says =
      let p : a + 0 ≡ a = omega arith in
      let e : h 0 ≡ look k (value r (input_at f a)) = rw p at (says 0 (omega arith)) in
      let q : 0 + 1 ≡ 1 = omega arith in
      rw (ne_eqb (suc n) 0 (λ z. omega arith), eq-eqb (h 0) (h 0) refl, q) (agree_all (h 0) n 1 (λ j b. says j (omega arith)) ∙ rw e)

module _ (f numbers : List ℕ) (places : Places) (g : Ground f numbers places) where
  -- places are inside
  pub phi_inside : (i : ℕ) → i < size f phis → places.phis + i < length numbers
  phi_inside i h = inside f numbers places g (λ (q : Places). q.phis) i (phi_here f i h)

  pub inputs_inside : (i : ℕ) → i < size f phis → places.inputs + first_input f i + phi_inputs f i ≤ length numbers
  unfolding places_of first_input
  inputs_inside i h = rw g.where_all (omega (arith, sum_part (phi_inputs f) {i = i} (size f phis) h refl refl, (owned_parts f g.counts).all_inputs, g.room))

  module _ (bytes : (k : ℕ) → Fits w8 (get_or f k 0)) where
    pub phi_names : (i : ℕ) → i < size f phis → Names f (length numbers) (places.phis + i) (value (phi_word f i 0) (phi_word f i 1))
    unfolding phi_key
    phi_names i h =
        names_at f numbers places g (λ (q : Places). q.phis) i (value (phi_word f i 0) (phi_word f i 1)) (phi_here f i h)
        (at_phi f (length numbers) i h) (word_small f bytes _)

    input_names : (i j : ℕ) → i < size f phis → j < phi_inputs f i → Names f (length numbers) (places.inputs + first_input f i + j) (value (phi_word f i 0) (input_at f (first_input f i + j)))
    unfolding input_key
    input_names i j h l =
        let e : places.inputs + first_input f i + j ≡ places.inputs + (first_input f i + j) = omega arith in
        rw e (names_at f numbers places g (λ (q : Places). q.inputs) (first_input f i + j) (value (phi_word f i 0) (input_at f (first_input f i + j)))
        (input_here f g.counts i j h l) (at_input f (length numbers) i j h l) (word_small f bytes _))

    pub assign_names : (i : ℕ) → i < size f statements → stmt_kind f i ≡ 1 → Names f (length numbers) (places.stmts + i) (value (stmt_field f i 0) (stmt_field f i 1))
    unfolding stmt_key
    assign_names i h e =
        names_at f numbers places g (λ (q : Places). q.stmts) i (value (stmt_field f i 0) (stmt_field f i 1)) (stmt_here f i h)
        (rw e at (at_stmt f (length numbers) g.counts i h)) (word_small f bytes _)

    module _ (tab : List ℕ) (k : List Known) (follows : tab ≡ table f (length numbers) (look k)) where
      input_known : (i j : ℕ) → i < size f phis → j < phi_inputs f i
          → value_at tab numbers (places.inputs + first_input f i) j ≡ look k (value (phi_word f i 0) (input_at f (first_input f i + j)))
      unfolding value_at
      input_known i j h l =
          known_at f numbers places g tab k (places.inputs + first_input f i + j) (value (phi_word f i 0) (input_at f (first_input f i + j))) (input_names i j h l) follows

      -- a phi's inputs agree where the values at their places do
      pub phi_agreed : (i : ℕ) → i < size f phis
          → agreed_by (value_at tab numbers (places.inputs + first_input f i)) (phi_inputs f i)
          ≡ agreed k (map (value (phi_word f i 0)) (map (input_at f) (range (first_input f i) (phi_inputs f i))))
      phi_agreed i h = agreed_is f k (value_at tab numbers (places.inputs + first_input f i)) (phi_word f i 0) (first_input f i) (phi_inputs f i) (λ j l. input_known i j h l)
