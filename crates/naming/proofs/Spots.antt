-- The spots of a file are the values that the definition names, in its order.
use mathlib.Core.Path.{◌≡◌, refl, sym, ap, ap₂, ◌∙◌}
use mathlib.Core.Bool.{Bool, true, false, not, cond, ◌&&◌}
use mathlib.Core.Option.{none, some}
use mathlib.Core.List.{List, [], ◌∷◌, ◌++◌, map, map-append, append_assoc}
use Prim.Native.Nat.{ℕ, ◌+◌}
use native.Mathlib.Omega.{arith}
use lib.Dec.{eqb}
use Rattle.definition.specs.Edition.{Edition, blocks}
use Rattle.definition.specs.Lists.{gather, range}
use Rattle.definition.specs.Contents.{size, phi_word, input_at, item_word}
use Rattle.definition.specs.Owners.{stmt_kind, stmt_field, expr_items, value_items, block_phis, block_stmts, phi_inputs, first_phi, first_stmt, first_input, first_item}
use Rattle.definition.specs.Values.{Value, value, RSP}
use Rattle.definition.specs.Meaning.{assigned, call_returns, item_values, value_at}
use Rattle.definition.specs.Ssa.{Expr, Stmt, Phi, uses, defs, value_or}
use Rattle.definition.specs.Read.{all_trees, kind_at, marked, stmt_at, phi_at, block_at, read}
use Rattle.definition.specs.Inline.{live}
use Rattle.definition.specs.Names.{phi_keys, block_keys}
use Rattle.definition.proofs.Bools.{by_test}
use Rattle.records.proofs.Ranges.{gather_map, map_gather, gather_only, shift, gather_same, map-map}
use Rattle.places.specs.Keys.{places_of}
use Rattle.records.proofs.Codes.{by_code}
use Rattle.names.specs.Spots.{Spot, spot, use_spots}
use Rattle.names.proofs.Reading.{values_of, use_values}
use Rattle.naming.specs.Walk.{input_spot, phi_spots, field_spots, item_spot, item_spots, stmt_spots, block_spots, spots}

-- ---- phis
module _ (f : List ℕ) where
  phi_values : (i : ℕ) → values_of (phi_spots f i) ≡ cond (not (eqb (phi_word f i 0) RSP) && not (eqb (phi_word f i 2) 1)) (phi_keys (phi_at f i)) []
  unfolding phi_spots phi_keys phi_at value_at input_spot
  phi_values i =
      let e = map-map (λ (x : Spot). x.of) (λ (k : ℕ). spot ((places_of f).inputs + k) (value (phi_word f i 0) (input_at f k))) (range (first_input f i) (phi_inputs f i)) in
      let d = map-map (value (phi_word f i 0)) (input_at f) (range (first_input f i) (phi_inputs f i)) in
      by_test (eqb (phi_word f i 0) RSP) (λ t. rw t)
      (λ t. by_test (eqb (phi_word f i 2) 1) (λ u. rw (t, u)) (λ u. rw (t, u) (ap (λ l. value (phi_word f i 0) (phi_word f i 1) ∷ l) (e ∙ sym d))))

  -- ---- statements
  item_values_lem : (i : ℕ) → values_of (item_spots f i) ≡ item_values f i
  unfolding item_spots item_spot item_values value_at
  item_values_lem i =
      let p : first_item f i + expr_items f i + 0 ≡ first_item f i + expr_items f i = omega arith in
      map-map (λ (x : Spot). x.of) (λ (k : ℕ). spot ((places_of f).items + k) (value (item_word f k 0) (item_word f k 1))) (range (first_item f i + expr_items f i) (value_items f i))
      ∙ ap (λ (a : ℕ). map (λ (k : ℕ). value (item_word f k 0) (item_word f k 1)) (range a (value_items f i))) (sym p)
      ∙ sym (shift (λ (k : ℕ). value (item_word f k 0) (item_word f k 1)) (first_item f i + expr_items f i) 0 (value_items f i))

  field_values : (i : ℕ) → values_of (field_spots f i) ≡ assigned f i ++ call_returns f i
  unfolding field_spots
  field_values i =
      map-append (λ (x : Spot). x.of) (map (spot ((places_of f).stmts + i)) (assigned f i)) (map (spot ((places_of f).stmts + i)) (call_returns f i))
      ∙ ap₂ (λ a b. a ++ b) (back (assigned f i)) (back (call_returns f i))
    where
      back : (vs : List Value) → values_of (map (spot ((places_of f).stmts + i)) vs) ≡ vs
      back [] = refl
      back (v ∷ vs) = ap (λ l. v ∷ l) (back vs)

  no_items : (i : ℕ) → value_items f i ≡ 0 → item_values f i ≡ []
  unfolding item_values range
  no_items i e = rw e

  defs_are : (E : Edition) (t : List Expr) (i : ℕ) → (assigned f i ++ call_returns f i) ++ item_values f i ≡ defs (kind_at E f t i)
  unfolding assigned call_returns kind_at defs value_or value_items
  defs_are E t i =
      by_code (stmt_kind f i) (λ e. rw (no_items i (none_of 1 e refl refl), e)) (λ e. rw (no_items i (none_of 2 e refl refl), e))
      (λ e. rw e (returned (eqb (stmt_field f i 3) 1) (value (stmt_field f i 4) (stmt_field f i 5)) (item_values f i))) (λ e. rw (no_items i (none_of 4 e refl refl), e))
      (λ e. rw (no_items i (none_of 5 e refl refl), e)) (λ e. rw (no_items i (none_of 6 e refl refl), e)) (λ a b c d g h. rw (a, b, c, d, g, h))
    where
      returned : (b : Bool) (v : Value) (vs : List Value) → (cond b (v ∷ []) []) ++ vs ≡ value_or (cond b (some v) none) vs
      returned true v vs = refl
      returned false v vs = refl

      none_of : (k : ℕ) → stmt_kind f i ≡ k → eqb k 3 ≡ false → eqb k 7 ≡ false → value_items f i ≡ 0
      none_of k e p q = rw (e, p, q)

  stmt_values : (E : Edition) (i : ℕ) → values_of (stmt_spots f i)
      ≡ cond (not (marked f i 1)) (defs (kind_at E f (all_trees E f) i) ++ uses (kind_at E f (all_trees E f) i)) []
  unfolding stmt_spots
  stmt_values E i =
      by_test (marked f i 1) (λ t. rw t)
      (λ t. rw t
      (map-append (λ (x : Spot). x.of) (field_spots f i) (item_spots f i ++ use_spots f i)
      ∙ ap₂ (λ a b. a ++ b) (field_values i) (map-append (λ (x : Spot). x.of) (item_spots f i) (use_spots f i) ∙ ap₂ (λ a b. a ++ b) (item_values_lem i) (use_values f E i))
      ∙ sym (append_assoc (assigned f i ++ call_returns f i) (item_values f i) (uses (kind_at E f (all_trees E f) i)))
      ∙ ap (λ l. l ++ uses (kind_at E f (all_trees E f) i)) (defs_are E (all_trees E f) i)))

  -- ---- blocks
  block_values : (E : Edition) (b : ℕ) → values_of (block_spots f b) ≡ block_keys (block_at E f (all_trees E f) b)
  unfolding block_spots block_keys block_at live phi_at stmt_at
  block_values E b =
      map-append (λ (x : Spot). x.of) (gather (phi_spots f) (range (first_phi f b) (block_phis f b))) (gather (stmt_spots f) (range (first_stmt f b) (block_stmts f b)))
      ∙ ap₂ (λ x y. x ++ y)
      (map_gather (λ (x : Spot). x.of) (phi_spots f) (range (first_phi f b) (block_phis f b))
      ∙ gather_same (λ i. values_of (phi_spots f i)) (λ i. cond (not (eqb (phi_word f i 0) RSP) && not (eqb (phi_word f i 2) 1)) (phi_keys (phi_at f i)) []) phi_values (range (first_phi f b) (block_phis f b))
      ∙ sym (gather_only phi_keys (λ (p : Phi). not (eqb p.var RSP) && not p.dead) (phi_at f) (range (first_phi f b) (block_phis f b))))
      (map_gather (λ (x : Spot). x.of) (stmt_spots f) (range (first_stmt f b) (block_stmts f b))
      ∙ gather_same (λ i. values_of (stmt_spots f i)) (λ i. cond (not (marked f i 1)) (defs (kind_at E f (all_trees E f) i) ++ uses (kind_at E f (all_trees E f) i)) []) (stmt_values E) (range (first_stmt f b) (block_stmts f b))
      ∙ sym (gather_only (λ (s : Stmt). defs s.kind ++ uses s.kind) (λ (s : Stmt). not s.dead) (stmt_at E f (all_trees E f)) (range (first_stmt f b) (block_stmts f b))))

  pub all_values : (E : Edition) → values_of (spots f) ≡ gather block_keys (read E f).blocks
  unfolding spots read
  all_values E =
      map_gather (λ (x : Spot). x.of) (block_spots f) (range 0 (size f blocks))
      ∙ gather_same (λ b. values_of (block_spots f b)) (λ b. block_keys (block_at E f (all_trees E f) b)) (block_values E) (range 0 (size f blocks))
      ∙ sym (gather_map block_keys (block_at E f (all_trees E f)) (range 0 (size f blocks)))
