-- The inputs of all phis, one behind the other, are the places of the inputs; so the table that is marked at each of them says what flows into a phi.
use mathlib.Core.Path.{◌≡◌, refl, sym, ap, subst, ◌∙◌}
use mathlib.Core.Bool.{true, cond}
use mathlib.Core.List.{List, ◌++◌, map}
use Prim.Native.Nat.{ℕ, zero, suc, ◌+◌, ◌-◌, ◌≤◌, ◌<◌}
use native.Mathlib.Omega.{arith}
use lib.ListN.{length, get_or, replicate}
use mir.Syntax.{w8}
use mir.Val.{Fits}
use Rattle.definition.specs.Edition.{Edition, phis, inputs}
use Rattle.definition.specs.Lists.{gather, range, at}
use Rattle.definition.specs.Contents.{size, place, phi_word, input_at}
use Rattle.definition.specs.Owners.{phi_inputs, first_input}
use Rattle.definition.specs.Shape.{owned}
use Rattle.definition.specs.Values.{Value, value, within}
use Rattle.definition.specs.Ssa.{Phi}
use Rattle.definition.specs.Read.{phi_at, read}
use Rattle.definition.specs.Inline.{phi_reads}
use Rattle.words.proofs.Laws.{word_small}
use Rattle.records.proofs.Ranges.{gather_map, gather_last, gather_same, map-map}
use Rattle.records.proofs.Parts.{owned_parts, runs, phis_are}
use Rattle.places.specs.Keys.{input_key, places_of}
use Rattle.values.specs.Tables.{numbered, table}
use Rattle.values.proofs.Placed.{at_input, input_here, keyed_length}
use Rattle.values.proofs.Tables.{zeros_are}
use Rattle.reads.specs.Counts.{placed, visit, slots, Numbers}
use Rattle.uses.proofs.Trees.{Both, none_left, and_then, both_append}
use Rattle.reads.proofs.Named.{StandsFor, mark_all}

-- ---- lists side by side
module _ {A : Type 0} {B : Type 0} {P : A → B → Type 0} where
  both_range : (g : ℕ → A) (h : ℕ → B) (m a : ℕ) → ((j : ℕ) → j < m → P (g (a + j)) (h (a + j))) → Both P (map g (range a m)) (map h (range a m))
  unfolding range
  both_range g h zero a p = none_left
  both_range g h (suc m) a p =
      let z : a + 0 ≡ a = omega arith in
      and_then (subst (λ (k : ℕ). P (g k) (h k)) z (p 0 (omega arith)))
      (both_range g h m (a + 1) (λ j l.
      let s : a + suc j ≡ a + 1 + j = omega arith in
      subst (λ (k : ℕ). P (g k) (h k)) s (p (suc j) (omega arith))))

  both_gather : (g : ℕ → List A) (h : ℕ → List B) (n : ℕ) → ((i : ℕ) → i < n → Both P (g i) (h i)) → Both P (gather g (range 0 n)) (gather h (range 0 n))
  unfolding range gather
  both_gather g h zero p = none_left
  both_gather g h (suc n) p = last (both_gather g h n (λ i l. p i (omega arith))) (p n (omega arith))
    where
      last : Both P (gather g (range 0 n)) (gather h (range 0 n)) → Both P (g n) (h n) → Both P (gather g (range 0 (suc n))) (gather h (range 0 (suc n)))
      last a b = subst (λ l. Both P l (gather h (range 0 (suc n)))) (sym (gather_last g n)) (subst (Both P (gather g (range 0 n) ++ g n)) (sym (gather_last h n)) (both_append a b))

-- ---- what flows into phis
module _ (f : List ℕ) (n : ℕ) (own : owned f ≡ true) (room : (places_of f).total ≤ n) (bytes : (k : ℕ) → Fits w8 (get_or f k 0)) where
  -- input k, of phi i
  input_value : ℕ → ℕ → Value
  input_value i k = value (phi_word f i 0) (input_at f k)

  input_slot : ℕ → ℕ
  input_slot k = at (numbered f n) ((places_of f).inputs + k)

  input_named : (i j : ℕ) → i < size f phis → j < phi_inputs f i → StandsFor f n (input_slot (first_input f i + j)) (input_value i (first_input f i + j))
  unfolding input_key input_value input_slot
  input_named i j h k = record {
    spot = (places_of f).inputs + (first_input f i + j);
    by = record {
      here = omega (arith, keyed_length f n own room, input_here f own i j h k);
      is = at_input f n i j h k;
      small = word_small f bytes (place f 3 1 (first_input f i + j) 0);
    };
    number = refl;
  }

  inputs_named : Both (StandsFor f n) (gather (λ i. map input_slot (range (first_input f i) (phi_inputs f i))) (range 0 (size f phis)))
      (gather (λ i. map (input_value i) (range (first_input f i) (phi_inputs f i))) (range 0 (size f phis)))
  inputs_named = both_gather _ _ (size f phis) (λ i h. both_range input_slot (input_value i) (phi_inputs f i) (first_input f i) (λ j k. input_named i j h k))

  slots_are : slots (numbered f n) (places_of f).inputs (range 0 (size f inputs)) ≡ gather (λ i. map input_slot (range (first_input f i) (phi_inputs f i))) (range 0 (size f phis))
  unfolding slots first_input input_slot
  slots_are =
      sym (runs input_slot (phi_inputs f) (size f phis) ∙ ap (λ (m : ℕ). map input_slot (range 0 m)) (owned_parts f own).all_inputs)

  values_are : (E : Edition) → phi_reads (read E f) ≡ gather (λ i. map (input_value i) (range (first_input f i) (phi_inputs f i))) (range 0 (size f phis))
  unfolding phi_reads phi_at input_value
  values_are E =
      ap (gather (λ (p : Phi). map (value p.var) p.inputs)) (phis_are f own E)
      ∙ gather_map (λ (p : Phi). map (value p.var) p.inputs) (phi_at f) (range 0 (size f phis))
      ∙ gather_same _ _ (λ i. map-map (value (phi_word f i 0)) (input_at f) (range (first_input f i) (phi_inputs f i))) (range 0 (size f phis))

  phi_table : (E : Edition) → visit (placed 1) (replicate n 0) (slots (numbered f n) (places_of f).inputs (range 0 (size f inputs)))
      ≡ table f n (λ v. cond (within v (phi_reads (read E f))) 1 0)
  phi_table E =
      ap (λ (t : List ℕ). visit (placed 1) t (slots (numbered f n) (places_of f).inputs (range 0 (size f inputs)))) (zeros_are f n (keyed_length f n own room))
      ∙ ap (visit (placed 1) (table f n (λ v. 0))) slots_are
      ∙ mark_all f n inputs_named 1 (λ v. 0)
      ∙ ap (λ (vs : List Value). table f n (λ v. cond (within v vs) 1 0)) (sym (values_are E))

-- as the code has it
pub phi_done : (f numbers tab : List ℕ) (base m : ℕ) → Numbers f numbers tab → ((k : ℕ) → Fits w8 (get_or f k 0)) → base ≡ (places_of f).inputs → m ≡ size f inputs → (E : Edition)
    → visit (placed 1) tab (slots numbers base (range 0 (m - 0))) ≡ table f (length numbers) (λ v. cond (within v (phi_reads (read E f))) 1 0)
phi_done f numbers tab base m k bytes e c E =
    let s : m - 0 ≡ size f inputs = omega arith in
    let l = range 0 (m - 0) in
    ap (λ (t : List ℕ). visit (placed 1) t (slots numbers base l)) k.clear
    ∙ ap (λ (z : List ℕ). visit (placed 1) (replicate (length numbers) 0) (slots z base l)) k.are
    ∙ rw (e, s) (phi_table f (length numbers) k.own k.room bytes E)
