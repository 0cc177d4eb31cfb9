-- The places of a file and the counts of its owners are sums of words, so that the code's sums fit; what is owned comes out.
use mathlib.Core.Path.{◌≡◌, refl, sym}
use mathlib.Core.Bool.{true}
use mathlib.Core.List.{List}
use Prim.Native.Nat.{ℕ, ◌+◌, ◌≤◌, ◌<◌}
use native.Mathlib.Omega.{arith}
use lib.ListN.{get_or}
use mir.Syntax.{w8}
use mir.Val.{Fits}
use Rattle.definition.specs.Edition.{args, blocks, phis, inputs, statements, lists}
use Rattle.definition.specs.Lists.{sum_below}
use Rattle.definition.specs.Contents.{size}
use Rattle.definition.specs.Owners.{block_phis, block_stmts, phi_inputs, first_phi, first_stmt, first_input}
use Rattle.definition.specs.Shape.{owned}
use Rattle.records.proofs.Below.{sum_turn, sum_le}
use Rattle.records.proofs.Items.{size_small}
use Rattle.records.proofs.Parts.{owned_parts}
use Rattle.places.specs.Keys.{places_of}

module _ (f : List ℕ) (bytes : (k : ℕ) → Fits w8 (get_or f k 0)) where
  pub exprs_small : (places_of f).exprs < 21474836480
  unfolding places_of
  exprs_small = omega (arith, size_small f bytes args, size_small f bytes phis, size_small f bytes inputs, size_small f bytes statements, size_small f bytes lists)

  pub items_small : (places_of f).items < 21474836480
  unfolding places_of
  items_small = omega (arith, size_small f bytes args, size_small f bytes phis, size_small f bytes inputs, size_small f bytes statements)

  pub stmts_small : (places_of f).stmts < 21474836480
  unfolding places_of
  stmts_small = omega (arith, size_small f bytes args, size_small f bytes phis, size_small f bytes inputs)

  pub inputs_small : (places_of f).inputs < 21474836480
  unfolding places_of
  inputs_small = omega (arith, size_small f bytes args, size_small f bytes phis)

  pub phis_small : (places_of f).phis < 21474836480
  unfolding places_of
  phis_small = omega (arith, size_small f bytes args)

-- ---- what blocks own
module _ (f : List ℕ) (own : owned f ≡ true) where
  pub parts_next : (b : ℕ) → (first_phi f (b + 1) ≡ first_phi f b + block_phis f b) × (first_stmt f (b + 1) ≡ first_stmt f b + block_stmts f b)
  unfolding first_phi first_stmt
  parts_next b = (sym (sum_turn (block_phis f) {i = b} refl refl), sym (sum_turn (block_stmts f) {i = b} refl refl))

  pub parts_below : (b : ℕ) → b < size f blocks → (first_phi f b + block_phis f b ≤ size f phis) × (first_stmt f b + block_stmts f b ≤ size f statements)
  unfolding first_phi first_stmt
  parts_below b h =
      let p = sum_turn (block_phis f) {i = b} refl refl in
      let q = sum_turn (block_stmts f) {i = b} refl refl in
      let o = owned_parts f own in
      (omega (arith, o.all_phis, sum_le (block_phis f) (b + 1) (size f blocks) (omega arith)), omega (arith, o.all_stmts, sum_le (block_stmts f) (b + 1) (size f blocks) (omega arith)))

  -- where the inputs of the phi behind i begin
  pub input_next : (i : ℕ) → first_input f (i + 1) ≡ first_input f i + phi_inputs f i
  unfolding first_input
  input_next i = sym (sum_turn (phi_inputs f) {i = i} refl refl)

  pub inputs_fit : ((k : ℕ) → Fits w8 (get_or f k 0)) → (i : ℕ) → i < size f phis → first_input f i + phi_inputs f i < 4294967296
  unfolding first_input
  inputs_fit bytes i h =
      let t = sum_turn (phi_inputs f) {i = i} refl refl in
      omega (arith, sum_le (phi_inputs f) (i + 1) (size f phis) (omega arith), last, size_small f bytes inputs)
    where
      last : sum_below (size f phis) (phi_inputs f) ≡ size f inputs
      last = (owned_parts f own).all_inputs

-- no more parameters than places
pub args_fit : (f : List ℕ) (r n : ℕ) → (places_of f).total ≤ n → n < 2147483648 → r ≤ size f args → r < 2147483648
unfolding places_of
args_fit f r n a b c = omega arith
