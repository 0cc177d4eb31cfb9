-- A walk goes over spots one behind the other: a run of calls, and what the returns come to.
use mathlib.Core.Path.{◌≡◌, refl, sym, ap, ap₂, ◌∙◌}
use mathlib.Core.Bool.{Bool, true, false}
use mathlib.Core.List.{List, ◌∷◌, ◌++◌, map}
use Prim.Native.Nat.{ℕ, ◌+◌, ◌-◌}
use native.Mathlib.Omega.{arith}
use borrow.Author.Tests.{ne_eqb}
use Rattle.definition.specs.Lists.{range, at}
use Rattle.definition.specs.Contents.{phi_word, input_at, expr_word}
use Rattle.definition.specs.Owners.{expr_items, value_items, phi_inputs, first_input, first_item}
use Rattle.definition.specs.Values.{Value, value}
use Rattle.definition.specs.Meaning.{phi_value, assigned, call_returns, value_at}
use Rattle.definition.specs.Read.{marked}
use Rattle.definition.proofs.Runs.{run_then}
use Rattle.std.specs.Prelude.{Option, Some, None}
use Rattle.defined.specs.declared.value.Value.{Value as Value'}
use Rattle.defined.specs.Defined.{value_of, list_of, item_value}
use Rattle.places.specs.declared.Places.{Places}
use Rattle.places.specs.Keys.{places_of}
use Rattle.uses.specs.Uses.{use_value}
use Rattle.names.specs.Spots.{Spot, Known, State, spot, named, use_spot, use_spots}
use Rattle.naming.specs.Walk.{walked, input_spot, phi_spots, field_spots, item_spot, item_spots, stmt_spots}

module _ (K : Known) where
  -- one spot before others, and several
  walk_next : (S T R : State) (x : Spot) (xs : List Spot) → T ≡ named K S x → R ≡ walked K T xs → R ≡ walked K S (x ∷ xs)
  unfolding walked
  walk_next S T R x xs p q = q ∙ ap (λ (U : State). walked K U xs) p

  pub walk_more : (S T R : State) (xs ys : List Spot) → T ≡ walked K S xs → R ≡ walked K T ys → R ≡ walked K S (xs ++ ys)
  unfolding walked
  walk_more = run_then (walked K) (named K) (λ S. refl) (λ S x xs. refl)

-- ---- number k of a run, as it is read
module _ (f order : List ℕ) (P : Places) (k : ℕ) (places : P ≡ places_of f) where
  pub input_spot_lem : (i reg ver : ℕ) → reg ≡ phi_word f i 0 → ver ≡ input_at f k → spot (P.inputs + k) (value reg ver) ≡ input_spot f i k
  unfolding input_spot
  input_spot_lem i reg ver q r = rw (places, q, r)

  pub item_spot_lem : (v : Value) → v ≡ item_value f k → spot (P.items + k) v ≡ item_spot f k
  unfolding item_spot
  item_spot_lem v q = rw (places, q)

  pub use_spot_lem : (n reg ver : ℕ) → n ≡ at order k → reg ≡ expr_word f n 1 → ver ≡ expr_word f n 2 → spot (P.exprs + n) (value reg ver) ≡ use_spot f (at order k)
  unfolding use_spot use_value
  use_spot_lem n reg ver a q r = rw (places, q, r, a)

-- ---- returns
module _ (K : Known) (p : ℕ) (S : State) (d : Option Value') where
  pub defined_none : d ≡ None → S ≡ walked K S (map (spot p) (list_of d))
  unfolding walked
  defined_none h = rw h

  pub defined_one : (S' : State) (v : Value') → d ≡ Some v → S' ≡ named K S (spot p (value_of v)) → S' ≡ walked K S (map (spot p) (list_of d))
  unfolding walked
  defined_one S' v h e = rw h e

module _ (K : Known) (f : List ℕ) (i r n : ℕ) (S : State) (is : value r n ≡ phi_value f i) where
  reg_is : phi_word f i 0 ≡ r
  unfolding value_at
  reg_is = sym (ap (λ (v : Value). v.reg) is)

  pub phi_rsp : r ≡ 4 → S ≡ walked K S (phi_spots f i)
  unfolding phi_spots walked
  phi_rsp h = rw (reg_is, h)

  pub phi_dead : (r ≡ 4 → ⊥) → (d : ℕ) → d ≡ phi_word f i 2 → d ≡ 1 → S ≡ walked K S (phi_spots f i)
  unfolding phi_spots walked
  phi_dead h d e g = rw (reg_is, ne_eqb r 4 h, sym e ∙ g)

  pub phi_live : (r ≡ 4 → ⊥) → (d : ℕ) → d ≡ phi_word f i 2 → (d ≡ 1 → ⊥) → (T R : State) (P : Places) (first m : ℕ) → P ≡ places_of f → first ≡ first_input f i → m ≡ phi_inputs f i
      → T ≡ named K S (spot (P.phis + i) (value r n)) → R ≡ walked K T (map (input_spot f i) (range first (first + m - first))) → R ≡ walked K S (phi_spots f i)
  unfolding phi_spots
  phi_live h d e g T R P first m a b c t u =
      let k : first + m - first ≡ m = omega arith in
      rw (reg_is, ne_eqb r 4 h, ← e, ne_eqb d 1 g)
      (walk_next K S T R (spot ((places_of f).phis + i) (phi_value f i)) (map (input_spot f i) (range (first_input f i) (phi_inputs f i)))
      (t ∙ ap₂ (λ (Q : Places) (v : Value). named K S (spot (Q.phis + i) v)) a is)
      (u ∙ ap₂ (λ (x y : ℕ). walked K T (map (input_spot f i) (range x y))) b (k ∙ c)))

module _ (K : Known) (f : List ℕ) (i : ℕ) (S : State) where
  pub fields_two : (p q : ℕ) (d e : Option Value') (T R : State) → p ≡ q + i → q ≡ (places_of f).stmts → list_of d ≡ assigned f i → list_of e ≡ call_returns f i
      → T ≡ walked K S (map (spot p) (list_of d)) → R ≡ walked K T (map (spot p) (list_of e)) → R ≡ walked K S (field_spots f i)
  unfolding field_spots
  fields_two p q d e T R a b x y t u =
      let at_field : p ≡ (places_of f).stmts + i = omega arith in
      walk_more K S T R (map (spot ((places_of f).stmts + i)) (assigned f i)) (map (spot ((places_of f).stmts + i)) (call_returns f i))
      (t ∙ ap₂ (λ (z : ℕ) (l : List Value). walked K S (map (spot z) l)) at_field x)
      (u ∙ ap₂ (λ (z : ℕ) (l : List Value). walked K T (map (spot z) l)) at_field y)

  pub stmt_dead : (d : Bool) → d ≡ marked f i 1 → d ≡ true → S ≡ walked K S (stmt_spots f i)
  unfolding stmt_spots walked
  stmt_dead d e h = rw (sym e ∙ h)

  pub stmt_live : (d : Bool) → d ≡ marked f i 1 → d ≡ false → (T U R : State) (first x m : ℕ) → first ≡ first_item f i → x ≡ expr_items f i → m ≡ value_items f i
      → T ≡ walked K S (field_spots f i) → U ≡ walked K T (map (item_spot f) (range (first + x) (first + x + m - (first + x))))
      → R ≡ walked K U (use_spots f i) → R ≡ walked K S (stmt_spots f i)
  unfolding stmt_spots item_spots
  stmt_live d e h T U R first x m a b c t u r =
      let k : first + x + m - (first + x) ≡ m = omega arith in
      rw (sym e ∙ h)
      (walk_more K S T R (field_spots f i) (map (item_spot f) (range (first_item f i + expr_items f i) (value_items f i)) ++ use_spots f i) t
      (walk_more K T U R (map (item_spot f) (range (first_item f i + expr_items f i) (value_items f i))) (use_spots f i)
      (u ∙ ap₂ (λ (y z : ℕ). walked K T (map (item_spot f) (range y z))) (ap₂ (λ (y z : ℕ). y + z) a b) (k ∙ c)) r))
