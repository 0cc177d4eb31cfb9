-- An expression loads from a slot where its record is a Load of a lower expression that has an offset; a child that is not lower counts as an Opaque.
use mathlib.Core.Path.{◌≡◌, refl, sym, ap, ap₂, ◌∙◌}
use mathlib.Core.Bool.{Bool, false, not, ◌&&◌}
use mathlib.Core.List.{List, []}
use Prim.Native.Nat.{ℕ, ◌≤◌, ◌<◌}
use native.Mathlib.Omega.{arith}
use lib.Dec.{eqb}
use borrow.Author.Tests.{eq-eqb, ne_eqb}
use Rattle.definition.specs.Edition.{Edition, expressions}
use Rattle.definition.specs.Contents.{size, expr_word}
use Rattle.definition.specs.Ssa.{Expr}
use Rattle.definition.specs.Ssa.Expr.{Opaque}
use Rattle.definition.specs.Read.{tree_at, tree, trees, all_trees, read}
use Rattle.definition.specs.Offsets.{Known, offsets, stack_off}
use Rattle.definition.specs.Lower.{is_stack_load}
use Rattle.records.proofs.Trees.{tree_lower, tree_past}
use Rattle.records.proofs.Codes.{by_code}
use Rattle.lowering.specs.Lowered.{lowering_of}
use Rattle.lowering.proofs.Gen.{gen_offsets}

no_offset : (k : List Known) → not (eqb (stack_off k (Opaque [])) 0) ≡ false
unfolding stack_off
no_offset k = refl

module _ (E : Edition) (f : List ℕ) where
  abbrev is_load : Expr → Bool
  is_load x = is_stack_load (lowering_of E f) x

  abbrev has_offset : Expr → Bool
  has_offset x = not (eqb (stack_off (lowering_of E f).gen.offsets x) 0)

  load_node : (t : List Expr) (n : ℕ) → is_load (tree E f t n) ≡ (eqb (expr_word f n 0) 5 && has_offset (tree_at t (expr_word f n 2)))
  unfolding is_stack_load tree
  load_node t n = by_code (expr_word f n 0) (λ e. rw e) (λ e. rw e) (λ e. rw e) (λ e. rw e) (λ e. rw e) (λ e. rw e) (λ a b c d g h. rw (a, b, c, d, g))

  module _ (n m : ℕ) (all : m ≡ size f expressions) where
    pub load_past : m ≤ n → false ≡ is_load (tree_at (all_trees E f) n)
    unfolding all_trees is_stack_load
    load_past h = sym (ap is_load (tree_past E f (size f expressions) n (omega arith)))

    module _ (here : n < m) (g : ℕ) (tag : g ≡ expr_word f n 0) where
      load_is : is_load (tree_at (all_trees E f) n) ≡ (eqb (expr_word f n 0) 5 && has_offset (tree_at (trees E f n) (expr_word f n 2)))
      unfolding all_trees
      load_is = ap is_load (tree_lower E f (size f expressions) n (omega arith)) ∙ load_node (trees E f n) n

      pub load_other : (g ≡ 5 → ⊥) → false ≡ is_load (tree_at (all_trees E f) n)
      load_other h = sym (load_is ∙ rw (← tag, ne_eqb g 5 h))

      module _ (loads : g ≡ 5) (a : ℕ) (child : a ≡ expr_word f n 2) where
        pub load_high : n ≤ a → false ≡ is_load (tree_at (all_trees E f) n)
        load_high h = sym (load_is ∙ rw (← tag, eq-eqb g 5 loads, ← child, tree_past E f n a h) (no_offset (lowering_of E f).gen.offsets))

        pub load_low : (o : ℕ) → a < n → o ≡ stack_off (offsets (read E f)) (tree_at (all_trees E f) a) → not (eqb o 0) ≡ is_load (tree_at (all_trees E f) n)
        unfolding all_trees
        load_low o h e =
            let same : tree_at (trees E f n) a ≡ tree_at (all_trees E f) a = tree_lower E f n a h ∙ sym (tree_lower E f (size f expressions) a (omega arith)) in
            sym (load_is ∙ rw (← tag, eq-eqb g 5 loads, ← child) (ap (λ (x : ℕ). not (eqb x 0)) (ap₂ stack_off (gen_offsets E f) same ∙ sym e)))
