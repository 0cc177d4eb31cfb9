-- What each return and each turn of a loop comes to, over plain lists and numbers: x, y, t and so on are what the code read, and the equations say what
-- they are.
use mathlib.Core.Path.{◌≡◌, refl, ap, ◌∙◌}
use mathlib.Core.Bool.{Bool, true, false}
use mathlib.Core.List.{List}
use Prim.Native.Nat.{ℕ, suc, ◌+◌, ◌-◌, ◌≤◌, ◌<◌}
use native.Mathlib.Omega.{arith}
use lib.Dec.{eqb}
use lib.ListN.{length, set}
use Rattle.definition.specs.Lists.{at}
use Rattle.definition.specs.Edition.{phis}
use Rattle.definition.specs.Contents.{size, phi_word}
use Rattle.definition.specs.Owners.{phi_inputs, first_input}
use Rattle.definition.specs.Values.{RSP}
use Rattle.definition.proofs.Runs.{loop_start}
use Rattle.records.proofs.Below.{sum_start, sum_turn, sum_part}
use Rattle.records.proofs.Parts.{owned_parts}
use Rattle.ssa.specs.Block.{phi_record}
use Rattle.ssa.specs.declared.block.Phi.{Phi}
use Rattle.places.specs.Keys.{places_of}
use Rattle.places.specs.declared.Places.{Places}
use Rattle.values.proofs.Tables.{at_set_other, numbered_length}
use Rattle.values.proofs.Placed.{keyed_length, phi_here}
use Rattle.values.proofs.Chaining.{filled_on}
use Rattle.classes.specs.Given.{Given, Standing}
use Rattle.unions.specs.Roots.{join}
use Rattle.classes.specs.Joined.{join_run, join_phi, join_phis, kept, spared}
use Rattle.unions.proofs.Labels.{fill_end}

-- ---- what places keep
-- what is done, and what is as it was
pub record Sparing (ks ns l₀ l : List ℕ) (i : ℕ) : Type 0 where
  pub done : (j : ℕ) → j < i → at l j ≡ kept ks ns (at l₀ j) j
  pub rest : (j : ℕ) → i ≤ j → at l j ≡ at l₀ j

module _ (ks ns l₀ : List ℕ) where
  pub spare_start : Sparing ks ns l₀ l₀ 0
  spare_start = record { done = (λ j h. absurd (omega arith)); rest = (λ j h. refl) }

  pub spare_turn : (l : List ℕ) (i x r : ℕ) → i < length l → x ≡ at l i → r ≡ kept ks ns x i → Sparing ks ns l₀ l i → Sparing ks ns l₀ (set l i r) (i + 1)
  spare_turn l i x r h p q s = record {
    done = filled_on (λ j. kept ks ns (at l₀ j) j) l (set l i r) i r s.done h (q ∙ ap (λ (y : ℕ). kept ks ns y i) (p ∙ s.rest i (omega arith))) refl;
    rest = (λ j g. at_set_other l i j r (λ e. omega arith) ∙ s.rest j (omega arith));
  }

  pub spare_end : (l : List ℕ) (i : ℕ) → length l ≡ length l₀ → length l ≤ i → Sparing ks ns l₀ l i → l ≡ spared ks ns l₀
  unfolding spared
  spare_end l i e h s = fill_end (λ j. kept ks ns (at l₀ j) j) l (length l₀) i e (omega arith) s.done

-- ---- the inputs of a phi
module _ (ks ns : List ℕ) (a k n : ℕ) where
  pub run_start : (t : List ℕ) → join_run ks ns t a k n ≡ join_run ks ns t a (k + 0) (n - 0)
  run_start t =
      let p : k + 0 ≡ k = omega arith in
      let q : n - 0 ≡ n = omega arith in
      rw (p, q)

  pub run_turn : (t u : List ℕ) (j b : ℕ) → j < n → b ≡ at ns (k + j) → u ≡ join ks t a b → join_run ks ns t a (k + j) (n - j) ≡ join_run ks ns u a (k + (j + 1)) (n - (j + 1))
  unfolding join_run
  run_turn t u j b h p q =
      let x : n - j ≡ suc (n - (j + 1)) = omega arith in
      let y : k + (j + 1) ≡ k + j + 1 = omega arith in
      rw (x, y, q, p)

  pub run_end : (t : List ℕ) (j : ℕ) → n ≤ j → join_run ks ns t a (k + j) (n - j) ≡ t
  unfolding join_run
  run_end t j h = let x : n - j ≡ 0 = omega arith in rw x

-- ---- a phi
pub phi_count : (f : List ℕ) (i : ℕ) (phi : Phi) → phi ≡ phi_record f i → phi.inputs ≡ phi_inputs f i
unfolding phi_record
phi_count f i phi is = ap (λ (p : Phi). p.inputs) is

module _ (f ks ns t : List ℕ) (i : ℕ) (phi : Phi) (w : Bool) (is : phi ≡ phi_record f i) (of_rsp : w ≡ eqb phi.value.reg RSP) where
  its_own : w ≡ eqb (phi_word f i 0) RSP
  unfolding phi_record
  its_own = of_rsp ∙ ap (λ (p : Phi). eqb p.value.reg RSP) is

  pub phi_rsp : w ≡ true → t ≡ join_phi f ks ns t i
  unfolding join_phi
  phi_rsp e = rw (← its_own, e)

  pub phi_joins : (u : List ℕ) (p k a : ℕ) → w ≡ false → Standing f i p k → a ≡ at ns p → u ≡ join_run ks ns t a k phi.inputs → u ≡ join_phi f ks ns t i
  unfolding join_phi
  phi_joins u p k a d s ea e = e ∙ rw (← its_own, d, ea, s.phi, s.inputs, phi_count f i phi is)

-- ---- all phis
module _ (f ks ns : List ℕ) (n m : ℕ) (count : n ≡ m) where
  pub phis_start : (t : List ℕ) → join_phis f ks ns t 0 m ≡ join_phis f ks ns t 0 (n - 0)
  phis_start t = loop_start (join_phis f ks ns t 0) n m count

  pub phis_turn : (t u : List ℕ) (i : ℕ) → i < n → u ≡ join_phi f ks ns t i → join_phis f ks ns t i (n - i) ≡ join_phis f ks ns u (i + 1) (n - (i + 1))
  unfolding join_phis
  phis_turn t u i h e = let x : n - i ≡ suc (n - (i + 1)) = omega arith in rw (x, e)

  pub phis_end : (t : List ℕ) (i : ℕ) → n ≤ i → join_phis f ks ns t i (n - i) ≡ t
  unfolding join_phis
  phis_end t i h = let x : n - i ≡ 0 = omega arith in rw x

-- ---- where phis and inputs stand
pub stand_start : (f : List ℕ) (r : Places) → r ≡ places_of f → Standing f 0 r.phis r.inputs
unfolding first_input
stand_start f r e =
    let z = sum_start (phi_inputs f) in
    record { phi = ap (λ (q : Places). q.phis) e ∙ omega arith; inputs = ap (λ (q : Places). q.inputs) e ∙ omega arith }

pub stand_turn : (f : List ℕ) (i p k n : ℕ) → Standing f i p k → n ≡ phi_inputs f i → Standing f (i + 1) (p + 1) (k + n)
unfolding first_input
stand_turn f i p k n s e =
    let t = sum_turn (phi_inputs f) {i = i} refl e in
    record { phi = omega (arith, s.phi); inputs = omega (arith, s.inputs) }

module _ (f ks ns : List ℕ) (n : ℕ) (given : Given f ks ns n) where
  pub keys_long : length ks ≡ n
  keys_long = ap length given.keys ∙ keyed_length f n given.whole given.room

  pub numbers_long : length ns ≡ n
  numbers_long = ap length given.numbers ∙ numbered_length f n ∙ keyed_length f n given.whole given.room

  module _ (i p k c : ℕ) (count : c ≡ size f phis) (here : i < c) (stand : Standing f i p k) where
    pub phi_fits : p < n
    phi_fits = omega (arith, stand.phi, phi_here f i (omega arith), given.room)

    pub inputs_fit : (m : ℕ) → m ≡ phi_inputs f i → k + m ≤ n
    unfolding places_of first_input
    inputs_fit m e =
        omega (arith, stand.inputs, sum_part (phi_inputs f) {i = i} (size f phis) (omega arith) refl e, (owned_parts f given.whole).all_inputs, given.room)

    pub run_asks : (m : ℕ) → m ≡ phi_inputs f i → (length ks ≡ n) × (k + m ≤ length ns)
    run_asks m e = (keys_long, omega (arith, inputs_fit m e, numbers_long))
