-- What stands at each place of a file's keys: a section's list begins behind the lists of the sections before it, and what an owner has begins behind
-- what the owners before it have.
use mathlib.Core.Path.{◌≡◌, refl, ap, ◌∙◌}
use mathlib.Core.Bool.{true}
use mathlib.Core.List.{List, ◌++◌, map, append_assoc}
use Prim.Native.Nat.{ℕ, ◌+◌, ◌-◌, ◌≤◌, ◌<◌}
use native.Mathlib.Omega.{arith}
use lib.ListN.{length, replicate, length-append, length-replicate}
use Rattle.definition.specs.Edition.{args, phis, statements, expressions}
use Rattle.definition.specs.Lists.{gather, range, sum_below, at}
use Rattle.definition.specs.Contents.{size}
use Rattle.definition.specs.Owners.{expr_items, value_items, items, phi_inputs, first_input, first_item}
use Rattle.definition.specs.Shape.{owned}
use Rattle.definition.specs.Listing.{padded}
use Rattle.records.proofs.Below.{sum_part, sum_same}
use Rattle.records.proofs.Parts.{owned_parts}
use Rattle.places.specs.Keys.{arg_key, phi_key, input_key, stmt_key, item_key, expr_key, input_keys, item_keys, keys_of, places_of, keyed}
use Rattle.values.proofs.Ranges.{at_left, at_right, map_length, at_map, at_below, gather_length, at_gather}

-- ---- the lists of the sections
abbrev pub arg_list : List ℕ → List ℕ
arg_list f = map (arg_key f) (range 0 (size f args))

abbrev pub phi_list : List ℕ → List ℕ
phi_list f = map (phi_key f) (range 0 (size f phis))

abbrev pub input_list : List ℕ → List ℕ
input_list f = gather (input_keys f) (range 0 (size f phis))

abbrev pub stmt_list : List ℕ → List ℕ
stmt_list f = map (stmt_key f) (range 0 (size f statements))

abbrev pub item_list : List ℕ → List ℕ
item_list f = gather (item_keys f) (range 0 (size f statements))

abbrev pub expr_list : List ℕ → List ℕ
expr_list f = map (expr_key f) (range 0 (size f expressions))

-- a part of a list, by what stands before it
at_part : (l before here rest : List ℕ) (n i : ℕ) → l ≡ before ++ (here ++ rest) → length before ≡ n → i < length here → at l (n + i) ≡ at here i
at_part l before here rest n i e len h =
    ap (λ (m : List ℕ). at m (n + i)) e ∙ at_right before (here ++ rest) n i len ∙ at_left here rest i h

-- number i of a section's list
at_row : (l before rest : List ℕ) (g : ℕ → ℕ) (m n i : ℕ) → l ≡ before ++ (map g (range 0 m) ++ rest) → length before ≡ n → i < m → at l (n + i) ≡ g i
at_row l before rest g m n i e len h = at_part l before (map g (range 0 m)) rest n i e len (omega (arith, map_length g 0 m)) ∙ at_below g m i h

-- number j of what owner i has, which begins at s of all that owners have
at_owner : (l before rest : List ℕ) (g : ℕ → List ℕ) (m n s i j : ℕ) → l ≡ before ++ (gather g (range 0 m) ++ rest) → length before ≡ n
    → sum_below i (λ k. length (g k)) ≡ s → i < m → j < length (g i) → at l (n + (s + j)) ≡ at (g i) j
at_owner l before rest g m n s i j e len first h k =
    let b = sum_part (λ (k : ℕ). length (g k)) {i = i} m h refl refl in
    rw (← first)
    (at_part l before (gather g (range 0 m)) rest n (sum_below i (λ (k : ℕ). length (g k)) + j) e len (omega (arith, gather_length g m)) ∙ at_gather g m i j h k)

-- ---- owners' counts
module _ (f : List ℕ) where
  pub inputs_length : (i : ℕ) → length (input_keys f i) ≡ phi_inputs f i
  unfolding input_keys
  inputs_length i = map_length (input_key f i) (first_input f i) (phi_inputs f i)

  pub items_length : (i : ℕ) → length (item_keys f i) ≡ items f i
  unfolding item_keys items
  items_length i =
      let e = length-append (replicate (expr_items f i) 0) (map (item_key f) (range (first_item f i + expr_items f i) (value_items f i))) in
      let a = length-replicate {A = ℕ} (expr_items f i) 0 in
      let b = map_length (item_key f) (first_item f i + expr_items f i) (value_items f i) in
      omega arith

  -- where the lists of owner i begin
  pub inputs_before : (i : ℕ) → sum_below i (λ k. length (input_keys f k)) ≡ first_input f i
  unfolding first_input
  inputs_before i = sum_same (λ k. length (input_keys f k)) (phi_inputs f) i inputs_length

  pub items_before : (i : ℕ) → sum_below i (λ k. length (item_keys f k)) ≡ first_item f i
  unfolding first_item
  items_before i = sum_same (λ k. length (item_keys f k)) (items f) i items_length

  -- ---- how long the lists are
  pub args_long : length (arg_list f) ≡ size f args
  args_long = map_length (arg_key f) 0 (size f args)

  phis_long : length (phi_list f) ≡ size f phis
  phis_long = map_length (phi_key f) 0 (size f phis)

  inputs_long : length (input_list f) ≡ first_input f (size f phis)
  inputs_long = gather_length (input_keys f) (size f phis) ∙ inputs_before (size f phis)

  stmts_long : length (stmt_list f) ≡ size f statements
  stmts_long = map_length (stmt_key f) 0 (size f statements)

  items_long : length (item_list f) ≡ first_item f (size f statements)
  items_long = gather_length (item_keys f) (size f statements) ∙ items_before (size f statements)

  exprs_long : length (expr_list f) ≡ size f expressions
  exprs_long = map_length (expr_key f) 0 (size f expressions)

  abbrev pub before_inputs : List ℕ
  before_inputs = arg_list f ++ phi_list f

  abbrev pub before_stmts : List ℕ
  before_stmts = before_inputs ++ input_list f

  abbrev pub before_items : List ℕ
  before_items = before_stmts ++ stmt_list f

  abbrev pub before_exprs : List ℕ
  before_exprs = before_items ++ item_list f

  pub inputs_at : length before_inputs ≡ (places_of f).inputs
  unfolding places_of
  inputs_at = omega (arith, length-append (arg_list f) (phi_list f), args_long, phis_long)

  pub stmts_at : owned f ≡ true → length before_stmts ≡ (places_of f).stmts
  unfolding places_of
  stmts_at own = omega (arith, length-append before_inputs (input_list f), inputs_at, inputs_long, (owned_parts f own).all_inputs)

  pub items_at : owned f ≡ true → length before_items ≡ (places_of f).items
  unfolding places_of
  items_at own = omega (arith, length-append before_stmts (stmt_list f), stmts_at own, stmts_long)

  pub exprs_at : owned f ≡ true → length before_exprs ≡ (places_of f).exprs
  unfolding places_of
  exprs_at own = omega (arith, length-append before_items (item_list f), items_at own, items_long, (owned_parts f own).all_items)

  pub keys_parts : keys_of f ≡ before_exprs ++ expr_list f
  unfolding keys_of
  keys_parts = simp append_assoc

  -- all the places
  pub places_length : owned f ≡ true → length (keys_of f) ≡ (places_of f).total
  unfolding places_of
  places_length own = ap length keys_parts ∙ omega (arith, length-append before_exprs (expr_list f), exprs_at own, exprs_long)

  -- what an owner has is below what all have
  pub input_below : (i j : ℕ) → i < size f phis → j < phi_inputs f i → first_input f i + j < first_input f (size f phis)
  unfolding first_input
  input_below i j h k = omega (arith, sum_part (phi_inputs f) {i = i} (size f phis) h refl refl)

  pub item_below : (i j : ℕ) → i < size f statements → j < items f i → first_item f i + j < first_item f (size f statements)
  unfolding first_item
  item_below i j h k = omega (arith, sum_part (items f) {i = i} (size f statements) h refl refl)

  -- ---- each place is below their number
  pub arg_here : (i : ℕ) → i < size f args → i < (places_of f).total
  unfolding places_of
  arg_here i h = omega arith

  pub phi_here : (i : ℕ) → i < size f phis → (places_of f).phis + i < (places_of f).total
  unfolding places_of
  phi_here i h = omega arith

  pub stmt_here : (i : ℕ) → i < size f statements → (places_of f).stmts + i < (places_of f).total
  unfolding places_of
  stmt_here i h = omega arith

  pub expr_here : (i : ℕ) → i < size f expressions → (places_of f).exprs + i < (places_of f).total
  unfolding places_of
  expr_here i h = omega arith

  pub input_here : owned f ≡ true → (i j : ℕ) → i < size f phis → j < phi_inputs f i → (places_of f).inputs + (first_input f i + j) < (places_of f).total
  unfolding places_of
  input_here own i j h k = omega (arith, input_below i j h k, (owned_parts f own).all_inputs)

  pub item_here : owned f ≡ true → (i j : ℕ) → i < size f statements → j < value_items f i
      → (places_of f).items + (first_item f i + expr_items f i + j) < (places_of f).total
  unfolding places_of items
  item_here own i j h k = omega (arith, item_below i (expr_items f i + j) h (omega arith), (owned_parts f own).all_items)

  -- ---- in scratch of n numbers
  module _ (n : ℕ) where
    pub keyed_length : owned f ≡ true → (places_of f).total ≤ n → length (keyed f n) ≡ n
    unfolding keyed padded
    keyed_length own h =
        let e = length-append (keys_of f) (replicate (n - length (keys_of f)) 0) in
        let z = length-replicate {A = ℕ} (n - length (keys_of f)) 0 in
        omega (arith, places_length own)

    -- what stands behind each list
    abbrev after_items : List ℕ
    after_items = expr_list f ++ replicate (n - length (keys_of f)) 0

    abbrev after_stmts : List ℕ
    after_stmts = item_list f ++ after_items

    abbrev after_inputs : List ℕ
    after_inputs = stmt_list f ++ after_stmts

    abbrev after_phis : List ℕ
    after_phis = input_list f ++ after_inputs

    args_part : keyed f n ≡ arg_list f ++ (phi_list f ++ after_phis)
    unfolding keyed padded keys_of
    args_part = simp append_assoc

    inputs_part : keyed f n ≡ before_inputs ++ (input_list f ++ after_inputs)
    inputs_part = args_part ∙ simp append_assoc

    stmts_part : keyed f n ≡ before_stmts ++ (stmt_list f ++ after_stmts)
    stmts_part = args_part ∙ simp append_assoc

    items_part : keyed f n ≡ before_items ++ (item_list f ++ after_items)
    items_part = args_part ∙ simp append_assoc

    exprs_part : keyed f n ≡ before_exprs ++ (expr_list f ++ replicate (n - length (keys_of f)) 0)
    exprs_part = args_part ∙ simp append_assoc

    pub at_arg : (i : ℕ) → i < size f args → at (keyed f n) i ≡ arg_key f i
    at_arg i h =
        ap (λ (l : List ℕ). at l i) args_part ∙ at_left (arg_list f) (phi_list f ++ after_phis) i (omega (arith, args_long))
        ∙ at_below (arg_key f) (size f args) i h

    pub at_phi : (i : ℕ) → i < size f phis → at (keyed f n) ((places_of f).phis + i) ≡ phi_key f i
    unfolding places_of
    at_phi i h = at_row (keyed f n) (arg_list f) after_phis (phi_key f) (size f phis) (size f args) i args_part args_long h

    pub at_input : (i j : ℕ) → i < size f phis → j < phi_inputs f i
        → at (keyed f n) ((places_of f).inputs + (first_input f i + j)) ≡ input_key f i (first_input f i + j)
    unfolding input_keys
    at_input i j h k =
        at_owner (keyed f n) before_inputs after_inputs (input_keys f) (size f phis) (places_of f).inputs (first_input f i) i j
        inputs_part inputs_at (inputs_before i) h (omega (arith, inputs_length i))
        ∙ at_map (input_key f i) (first_input f i) (phi_inputs f i) j k

    -- an item of statement i, expressions first
    item_at_lem : owned f ≡ true → (i j : ℕ) → i < size f statements → j < items f i
        → at (keyed f n) ((places_of f).items + (first_item f i + j)) ≡ at (item_keys f i) j
    item_at_lem own i j h k =
        at_owner (keyed f n) before_items after_items (item_keys f) (size f statements) (places_of f).items (first_item f i) i j
        items_part (items_at own) (items_before i) h (omega (arith, items_length i))

    module _ (own : owned f ≡ true) where
      pub at_stmt : (i : ℕ) → i < size f statements → at (keyed f n) ((places_of f).stmts + i) ≡ stmt_key f i
      at_stmt i h = at_row (keyed f n) before_stmts after_stmts (stmt_key f) (size f statements) (places_of f).stmts i stmts_part (stmts_at own) h

      pub at_item : (i j : ℕ) → i < size f statements → j < value_items f i
          → at (keyed f n) ((places_of f).items + (first_item f i + expr_items f i + j)) ≡ item_key f (first_item f i + expr_items f i + j)
      unfolding item_keys items
      at_item i j h k =
          let p : first_item f i + expr_items f i + j ≡ first_item f i + (expr_items f i + j) = omega arith in
          ap (λ (m : ℕ). at (keyed f n) ((places_of f).items + m)) p
          ∙ item_at_lem own i (expr_items f i + j) h (omega arith)
          ∙ at_right (replicate (expr_items f i) 0) (map (item_key f) (range (first_item f i + expr_items f i) (value_items f i))) (expr_items f i) j (length-replicate (expr_items f i) 0)
          ∙ at_map (item_key f) (first_item f i + expr_items f i) (value_items f i) j k

      pub at_expr : (i : ℕ) → i < size f expressions → at (keyed f n) ((places_of f).exprs + i) ≡ expr_key f i
      at_expr i h =
          at_row (keyed f n) before_exprs (replicate (n - length (keys_of f)) 0) (expr_key f) (size f expressions) (places_of f).exprs i exprs_part (exprs_at own) h
