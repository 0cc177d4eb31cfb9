-- A place of the file names a value: there the tables are read and written at the value's number. The places of a section stand in its order, and a
-- Use node that a statement reads is an expression of the file.
use mathlib.Core.Path.{◌≡◌, refl, sym, ap, subst, ◌∙◌}
use mathlib.Core.Bool.{true, cond}
use mathlib.Core.List.{List, map}
use Prim.Native.Nat.{ℕ, zero, suc, ◌+◌, ◌≤◌, ◌<◌}
use native.Mathlib.Omega.{arith}
use lib.ListN.{get_or, set}
use mir.Syntax.{w8}
use mir.Val.{Fits}
use Rattle.words.proofs.Laws.{word_small}
use Rattle.definition.specs.Edition.{args, phis, phi_words, inputs, input_words, expressions, expr_words}
use Rattle.definition.specs.Lists.{gather, range, at}
use Rattle.definition.specs.Contents.{size, place, arg_at, phi_word, input_at}
use Rattle.definition.specs.Owners.{phi_inputs, first_input}
use Rattle.definition.specs.Shape.{owned}
use Rattle.definition.specs.Values.{Value, value, eqv}
use Rattle.definition.specs.Meaning.{phi_value, value_at}
use Rattle.definition.proofs.ListLaws.{Each, end, ◌▸◌, each_append, each_map}
use Rattle.places.specs.Keys.{key_of, arg_key, phi_key, input_key, expr_key, places_of, keyed}
use Rattle.values.specs.Tables.{number_of, numbered, table}
use Rattle.values.proofs.Tables.{numbered_at, table_same, table_read, table_write, Names}
use Rattle.values.proofs.Placed.{at_arg, at_phi, at_input, at_expr, keyed_length, arg_here, phi_here, input_here, expr_here}
use Rattle.uses.specs.Uses.{use_value}
use Rattle.reads.proofs.Nodes.{IsUse, stmt_nodes}
use Rattle.names.specs.Codes.{coded}
use Rattle.names.specs.Spots.{Spot, spot, use_spot, use_spots}

-- a table is written at a place
pub coded_write : (f : List ℕ) (n p : ℕ) (v : Value) → Names f n p v → (g : Value → ℕ) (x : ℕ) → set (table f n g) (at (numbered f n) p) x ≡ table f n (coded v x g)
unfolding coded
coded_write f n p v by g x = table_write f n g p v by x ∙ table_same f n (λ w. cond (eqv v w) x (g w)) (coded v x g) (λ w. refl)

-- the number of a class's root
pub root_number : (f : List ℕ) (n : ℕ) (root : Value → Value) (p q : ℕ) (v : Value) → Names f n p v → Names f n q (root v)
    → at (table f n (λ w. number_of (keyed f n) (key_of (root w)))) (at (numbered f n) p) ≡ at (numbered f n) q
root_number f n root p q v by to =
    table_read f n (λ w. number_of (keyed f n) (key_of (root w))) p v by ∙ sym (numbered_at f n q to.here ∙ ap (number_of (keyed f n)) to.is)

-- a spot whose place names its value
abbrev pub Right : List ℕ → ℕ → Spot → Type 0
Right f n x = Names f n x.place x.of

-- ---- every element of a run
module _ {A : Type 0} (P : A → Type 0) where
  pub each_run : (g : ℕ → A) (a n : ℕ) → ((j : ℕ) → j < n → P (g (a + j))) → Each P (map g (range a n))
  unfolding range
  each_run g a zero h = end
  each_run g a (suc n) h =
      let p : a + 0 ≡ a = omega arith in
      subst (λ (k : ℕ). P (g k)) p (h 0 (omega arith)) ▸ each_run g (a + 1) n (λ j k. let q : a + suc j ≡ a + 1 + j = omega arith in subst (λ (m : ℕ). P (g m)) q (h (suc j) (omega arith)))

  pub each_runs : (g : ℕ → List A) (a n : ℕ) → ((i : ℕ) → i < a + n → Each P (g i)) → Each P (gather g (range a n))
  unfolding range gather
  each_runs g a zero h = end
  each_runs g a (suc n) h = each_append (h a (omega arith)) (each_runs g (a + 1) n (λ i k. h i (omega arith)))

-- ---- places that name values
module _ (f : List ℕ) (bytes : (k : ℕ) → Fits w8 (get_or f k 0)) (own : owned f ≡ true) (n : ℕ) (room : (places_of f).total ≤ n) where
  pub named_at_lem : (p : ℕ) (v : Value) → p < (places_of f).total → at (keyed f n) p ≡ key_of v → v.ver < 4294967296 → Names f n p v
  named_at_lem p v h e k = record { here = omega (arith, keyed_length f n own room); is = e; small = k }

  pub arg_named_lem : (i : ℕ) → i < size f args → Names f n i (value (arg_at f i) 0)
  unfolding arg_key
  arg_named_lem i h = named_at_lem _ _ (arg_here f i h) (at_arg f n i h) (omega arith)

  pub phi_named_lem : (i : ℕ) → i < size f phis → Names f n ((places_of f).phis + i) (phi_value f i)
  unfolding phi_key value_at
  phi_named_lem i h = named_at_lem _ _ (phi_here f i h) (at_phi f n i h) (word_small f bytes (place f phis phi_words i 1))

  pub input_named : (i j : ℕ) → i < size f phis → j < phi_inputs f i → Names f n ((places_of f).inputs + (first_input f i + j)) (value (phi_word f i 0) (input_at f (first_input f i + j)))
  unfolding input_key
  input_named i j h k = named_at_lem _ _ (input_here f own i j h k) (at_input f n i j h k) (word_small f bytes (place f inputs input_words (first_input f i + j) 0))

  use_named : (m : ℕ) → IsUse f m → Names f n ((places_of f).exprs + m) (use_value f m)
  unfolding expr_key use_value
  use_named m u = named_at_lem _ _ (expr_here f m u.1) (at_expr f n own m u.1 ∙ rw u.0) (word_small f bytes (place f expressions expr_words m 2))

  -- ---- each spot that is read
  pub uses_right : (i : ℕ) → Each (Right f n) (use_spots f i)
  unfolding use_spots use_spot
  uses_right i = each_map (λ (m : ℕ). spot ((places_of f).exprs + m) (use_value f m)) use_named (stmt_nodes f i)
