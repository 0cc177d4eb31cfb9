-- A walk over the blocks comes to the first parts of the next block, and what a block has is inside its section, so that its numbers have 32 bits.
use mathlib.Core.Path.{◌≡◌, sym, ap, ◌∙◌}
use mathlib.Core.Bool.{Bool, true}
use mathlib.Core.List.{List}
use Prim.Native.Nat.{ℕ, ◌+◌, ◌≤◌, ◌<◌}
use native.Mathlib.Omega.{arith}
use lib.ListN.{get_or}
use mir.Syntax.{w8}
use mir.Val.{Fits}
use Rattle.definition.specs.Edition.{blocks, phis, inputs, statements}
use Rattle.definition.specs.Lists.{sum_below}
use Rattle.definition.specs.Contents.{size}
use Rattle.definition.specs.Owners.{block_phis, block_stmts, phi_inputs, first_phi, first_stmt, first_input}
use Rattle.definition.specs.Shape.{owned}
use Rattle.records.proofs.Below.{sum_start, sum_turn, sum_part}
use Rattle.records.proofs.Items.{size_small}
use Rattle.records.proofs.Parts.{owned_parts}
use Rattle.rounds.specs.declared.Walk.{Walk}
use Rattle.rounds.specs.Before.{Before}

module _ (f : List ℕ) (counts : owned f ≡ true) where
  -- the inputs behind those of phi i have 32 bits
  pub inputs_small : ((k : ℕ) → Fits w8 (get_or f k 0)) → (i first n : ℕ) → i < size f phis → first ≡ first_input f i → n ≡ phi_inputs f i → first + n < 4294967296
  unfolding first_input
  inputs_small bytes i first n h p q =
      omega (arith, sum_part (phi_inputs f) (size f phis) h p q, (owned_parts f counts).all_inputs, size_small f bytes inputs)

-- one of n numbers from a on
pub within : (a i n s : ℕ) → i < n → a + n ≤ s → a + i < s
within a i n s h l = omega arith

-- the inputs of phis from a on: how a walk begins, a turn, and the end
pub inputs_start : (f : List ℕ) (a x : ℕ) → x ≡ first_input f a → x ≡ first_input f (a + 0)
inputs_start f a x e = let q : a + 0 ≡ a = omega arith in rw q e

pub inputs_turn : (f : List ℕ) (a i x n : ℕ) → x ≡ first_input f (a + i) → n ≡ phi_inputs f (a + i) → x + n ≡ first_input f (a + (i + 1))
unfolding first_input
inputs_turn f a i x n p q = let s : a + (i + 1) ≡ a + i + 1 = omega arith in rw s (sum_turn (phi_inputs f) p q)

pub inputs_end : (f : List ℕ) (a i n x : ℕ) → i ≤ n → n ≤ i → x ≡ first_input f (a + i) → x ≡ first_input f (a + n)
inputs_end f a i n x p q e = let s : n ≡ i = omega arith in rw s e

pub before_start : (f : List ℕ) (c : Bool) → Before f 0 (record { phi = 0; input = 0; stmt = 0; changed = c })
unfolding first_phi first_stmt first_input
before_start f c = record {
  phi = sum_start (block_phis f);
  input = sum_start (phi_inputs f) ∙ ap (λ (i : ℕ). sum_below i (phi_inputs f)) (sum_start (block_phis f));
  stmt = sum_start (block_stmts f);
}

pub before_next : (f : List ℕ) (b : ℕ) (w : Walk) (n m i : ℕ) (c : Bool) → Before f b w → n ≡ block_phis f b → m ≡ block_stmts f b → i ≡ first_input f (w.phi + n)
    → Before f (b + 1) (record { phi = w.phi + n; input = i; stmt = w.stmt + m; changed = c })
unfolding first_phi first_stmt
before_next f b w n m i c h p q e =
    let phi : w.phi + n ≡ first_phi f (b + 1) = sum_turn (block_phis f) h.phi p in
    record { phi = phi; input = e ∙ ap (first_input f) phi; stmt = sum_turn (block_stmts f) h.stmt q }

-- the parts of the block that a walk stands before
module _ (f : List ℕ) (counts : owned f ≡ true) (b : ℕ) (w : Walk) (here : b < size f blocks) (before : Before f b w) where
  pub walk_phis : (n : ℕ) → n ≡ block_phis f b → w.phi + n ≤ size f phis
  unfolding first_phi
  walk_phis n e = omega (arith, sum_part (block_phis f) (size f blocks) here before.phi e, (owned_parts f counts).all_phis)

  pub walk_stmts : (n : ℕ) → n ≡ block_stmts f b → w.stmt + n ≤ size f statements
  unfolding first_stmt
  walk_stmts n e = omega (arith, sum_part (block_stmts f) (size f blocks) here before.stmt e, (owned_parts f counts).all_stmts)

  pub walk_input : w.input ≡ first_input f w.phi
  walk_input = before.input ∙ ap (first_input f) (sym before.phi)
