-- Each spot's place names its value: a phi's and its inputs', a statement's and its items', and those of what it reads.
use mathlib.Core.Path.{◌≡◌, ◌∙◌}
use mathlib.Core.Bool.{true, ◌&&◌, ◌||◌}
use mathlib.Core.List.{List, map}
use Prim.Native.Nat.{ℕ, ◌+◌, ◌≤◌, ◌<◌}
use native.Mathlib.Omega.{arith}
use lib.Dec.{eqb}
use lib.ListN.{get_or}
use mir.Syntax.{w8}
use mir.Val.{Fits}
use borrow.Author.Tests.{eqb-true}
use Rattle.words.proofs.Laws.{word_small}
use Rattle.definition.specs.Codes.{k_assign, k_call}
use Rattle.definition.specs.Edition.{blocks, phis, statements, stmt_words, lists, item_words}
use Rattle.definition.specs.Contents.{size, place, phi_word, input_at}
use Rattle.definition.specs.Owners.{stmt_kind, stmt_field, expr_items, value_items, block_phis, block_stmts, phi_inputs, first_phi, first_stmt, first_input, first_item}
use Rattle.definition.specs.Shape.{owned}
use Rattle.definition.specs.Values.{Value, value, RSP}
use Rattle.definition.specs.Meaning.{assigned, call_returns, value_at}
use Rattle.definition.specs.Read.{marked}
use Rattle.definition.proofs.Bools.{by_cond, both_true}
use Rattle.definition.proofs.ListLaws.{Each, end, ◌▸◌, each_append}
use Rattle.defined.specs.Defined.{item_value}
use Rattle.places.specs.Keys.{stmt_key, item_key, places_of}
use Rattle.values.proofs.Placed.{at_stmt, at_item, stmt_here, item_here}
use Rattle.values.proofs.Tables.{Names}
use Rattle.names.specs.Spots.{spot}
use Rattle.naming.specs.Walk.{input_spot, phi_spots, field_spots, item_spot, item_spots, stmt_spots, block_spots, spots}
use Rattle.names.proofs.Mentioned.{Right, each_run, each_runs, named_at_lem, phi_named_lem, input_named, uses_right}
use Rattle.naming.proofs.Small.{parts_below}

module _ (f : List ℕ) (bytes : (k : ℕ) → Fits w8 (get_or f k 0)) (own : owned f ≡ true) (n : ℕ) (room : (places_of f).total ≤ n) where
  phi_right : (i : ℕ) → i < size f phis → Each (Right f n) (phi_spots f i)
  unfolding phi_spots input_spot
  phi_right i h =
      by_cond (Each (Right f n)) (eqb (phi_word f i 0) RSP || eqb (phi_word f i 2) 1) (λ e. end)
      (λ e. phi_named_lem f bytes own n room i h ▸ each_run (Right f n) (λ (k : ℕ). spot ((places_of f).inputs + k) (value (phi_word f i 0) (input_at f k))) (first_input f i) (phi_inputs f i) (λ j k. input_named f bytes own n room i j h k))

  field_right : (i : ℕ) → i < size f statements → Each (Right f n) (field_spots f i)
  unfolding field_spots assigned call_returns stmt_key
  field_right i h =
      each_append
      (by_cond (λ (l : List Value). Each (Right f n) (map (spot ((places_of f).stmts + i)) l)) (eqb (stmt_kind f i) k_assign)
      (λ e. named_at_lem f bytes own n room _ _ (stmt_here f i h) (at_stmt f n own i h ∙ rw e) (word_small f bytes (place f statements stmt_words i 5)) ▸ end) (λ e. end))
      (by_cond (λ (l : List Value). Each (Right f n) (map (spot ((places_of f).stmts + i)) l)) (eqb (stmt_kind f i) k_call && eqb (stmt_field f i 3) 1)
      (λ e. named_at_lem f bytes own n room _ _ (stmt_here f i h)
      (at_stmt f n own i h ∙ rw (eqb-true (stmt_kind f i) k_call (both_true (eqb (stmt_kind f i) k_call) (eqb (stmt_field f i 3) 1) e).0, (both_true (eqb (stmt_kind f i) k_call) (eqb (stmt_field f i 3) 1) e).1))
      (word_small f bytes (place f statements stmt_words i 9)) ▸ end) (λ e. end))

  item_named : (i j : ℕ) → i < size f statements → j < value_items f i → Names f n ((places_of f).items + (first_item f i + expr_items f i + j)) (item_value f (first_item f i + expr_items f i + j))
  unfolding item_key value_at
  item_named i j h k = named_at_lem f bytes own n room _ _ (item_here f own i j h k) (at_item f n own i j h k) (word_small f bytes (place f lists item_words (first_item f i + expr_items f i + j) 1))

  stmt_right : (i : ℕ) → i < size f statements → Each (Right f n) (stmt_spots f i)
  unfolding stmt_spots item_spots item_spot
  stmt_right i h =
      by_cond (Each (Right f n)) (marked f i 1) (λ e. end)
      (λ e. each_append (field_right i h)
      (each_append (each_run (Right f n) (λ (k : ℕ). spot ((places_of f).items + k) (item_value f k)) (first_item f i + expr_items f i) (value_items f i) (λ j k. item_named i j h k))
      (uses_right f bytes own n room i)))

  block_right : (b : ℕ) → b < size f blocks → Each (Right f n) (block_spots f b)
  unfolding block_spots
  block_right b h =
      let below = parts_below f own b h in
      each_append (each_runs (Right f n) (phi_spots f) (first_phi f b) (block_phis f b) (λ i k. phi_right i (omega arith)))
      (each_runs (Right f n) (stmt_spots f) (first_stmt f b) (block_stmts f b) (λ i k. stmt_right i (omega arith)))

  pub all_right : Each (Right f n) (spots f)
  unfolding spots
  all_right = each_runs (Right f n) (block_spots f) 0 (size f blocks) (λ b h. block_right b (omega arith))
