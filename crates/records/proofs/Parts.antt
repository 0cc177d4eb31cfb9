-- What check 4 has seen of owners, taken apart once: blocks' phis and statements, phis' inputs and statements' items are all that there are. So the
-- phis and statements of all blocks, one block behind the other, are those of the file from the first to the last.
use mathlib.Core.Path.{◌≡◌, refl, sym, ap, ◌∙◌}
use mathlib.Core.Bool.{true, ◌&&◌}
use mathlib.Core.List.{List, ◌++◌, map, map-append}
use Prim.Native.Nat.{ℕ, zero, suc, ◌+◌}
use native.Mathlib.Omega.{arith}
use lib.Dec.{eqb}
use borrow.Author.Tests.{eqb-true}
use Rattle.definition.specs.Edition.{Edition, blocks, phis, inputs, statements, lists}
use Rattle.definition.specs.Lists.{gather, range, sum_below}
use Rattle.definition.specs.Contents.{size}
use Rattle.definition.specs.Owners.{block_phis, block_stmts, first_phi, first_stmt, first_input, first_item}
use Rattle.definition.specs.Shape.{owned}
use Rattle.definition.specs.Ssa.{Block, stmts_of, phis_of}
use Rattle.definition.specs.Read.{all_trees, stmt_at, phi_at, block_at, read}
use Rattle.definition.proofs.Bools.{both_true}
use Rattle.records.proofs.Ranges.{range_parts, gather_map, gather_last}

pub record Owned (f : List ℕ) : Type 0 where
  pub all_phis : first_phi f (size f blocks) ≡ size f phis
  pub all_stmts : first_stmt f (size f blocks) ≡ size f statements
  pub all_inputs : first_input f (size f phis) ≡ size f inputs
  pub all_items : first_item f (size f statements) ≡ size f lists

pub owned_parts : (f : List ℕ) → owned f ≡ true → Owned f
unfolding owned
owned_parts f own =
    let p = eqb (first_phi f (size f blocks)) (size f phis) in
    let s = eqb (first_stmt f (size f blocks)) (size f statements) in
    let i = eqb (first_input f (size f phis)) (size f inputs) in
    let l = eqb (first_item f (size f statements)) (size f lists) in
    let four = both_true (p && s && i) l own in
    let three = both_true (p && s) i four.0 in
    let two = both_true p s three.0 in
    record {
      all_phis = eqb-true _ _ two.0;
      all_stmts = eqb-true _ _ two.1;
      all_inputs = eqb-true _ _ three.1;
      all_items = eqb-true _ _ four.1;
    }

-- runs that go on where the one before ends are one run
pub runs : {A : Type 0} (g : ℕ → A) (h : ℕ → ℕ) (n : ℕ) → gather (λ i. map g (range (sum_below i h) (h i))) (range 0 n) ≡ map g (range 0 (sum_below n h))
unfolding sum_below range gather
runs g h zero = refl
runs g h (suc n) =
    let p : 0 + sum_below n h ≡ sum_below n h = omega arith in
    gather_last (λ i. map g (range (sum_below i h) (h i))) n
    ∙ ap (λ l. l ++ map g (range (sum_below n h) (h n))) (runs g h n)
    ∙ sym (map-append g (range 0 (sum_below n h)) (range (sum_below n h) (h n)))
    ∙ sym (ap (map g) (range_parts 0 (sum_below n h) (h n) ∙ ap (λ (k : ℕ). range 0 (sum_below n h) ++ range k (h n)) p))

module _ (f : List ℕ) (own : owned f ≡ true) (E : Edition) where
  pub stmts_are : stmts_of (read E f) ≡ map (stmt_at E f (all_trees E f)) (range 0 (size f statements))
  unfolding stmts_of read block_at first_stmt
  stmts_are =
      gather_map (λ (b : Block). b.stmts) (block_at E f (all_trees E f)) (range 0 (size f blocks))
      ∙ runs (stmt_at E f (all_trees E f)) (block_stmts f) (size f blocks)
      ∙ ap (λ (n : ℕ). map (stmt_at E f (all_trees E f)) (range 0 n)) (owned_parts f own).all_stmts

  pub phis_are : phis_of (read E f) ≡ map (phi_at f) (range 0 (size f phis))
  unfolding phis_of read block_at first_phi
  phis_are =
      gather_map (λ (b : Block). b.phis) (block_at E f (all_trees E f)) (range 0 (size f blocks))
      ∙ runs (phi_at f) (block_phis f) (size f blocks)
      ∙ ap (λ (n : ℕ). map (phi_at f) (range 0 n)) (owned_parts f own).all_phis
