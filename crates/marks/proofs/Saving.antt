-- A statement is a save by the definition where its record says so: a Store whose value's tree is a Use of a callee_saved_lem register's version 0, and
-- whose address has an offset.
use mathlib.Core.Path.{◌≡◌, refl, sym, ap, ◌∙◌}
use mathlib.Core.Bool.{Bool, true, false, not, cond, ◌&&◌, ◌||◌}
use mathlib.Core.List.{List, []}
use Prim.Native.Nat.{ℕ}
use lib.Dec.{eqb, ltb}
use borrow.Author.Tests.{ltb-true, ltb-false, eq-eqb, ne_eqb}
use Rattle.definition.specs.Edition.{Edition, expressions}
use Rattle.definition.specs.Contents.{size, expr_word}
use Rattle.definition.specs.Owners.{stmt_kind, stmt_field}
use Rattle.definition.specs.Ssa.{Expr}
use Rattle.definition.specs.Ssa.Expr.{Opaque}
use Rattle.definition.specs.Read.{tree_at, tree, trees, all_trees, kind_at, marked}
use Rattle.definition.specs.Offsets.{Known, stack_off}
use Rattle.definition.specs.Lower.{is_saved, saves}
use Rattle.definition.specs.Blocks.{is_save}
use Rattle.definition.proofs.Bools.{by_test}
use Rattle.records.proofs.Trees.{tree_lower, tree_past}
use Rattle.records.proofs.Codes.{by_code}
use Rattle.marks.specs.Reading.{saved_use, saved_at}

-- ---- the trees
module _ (E : Edition) (f : List ℕ) where
  saved_node : (t : List Expr) (n : ℕ) → is_saved (tree E f t n) ≡ saved_use f n
  unfolding is_saved tree saved_use
  saved_node t n = by_code (expr_word f n 0) (λ e. rw e) (λ e. rw e) (λ e. rw e) (λ e. rw e) (λ e. rw e) (λ e. rw e) (λ a b c d g h. rw (a, b, c, d, g))

  no_tree : is_saved (Opaque []) ≡ false
  unfolding is_saved
  no_tree = refl

  saved_tree : (n : ℕ) → is_saved (tree_at (all_trees E f) n) ≡ saved_at f n
  unfolding all_trees saved_at
  saved_tree n =
      let m = size f expressions in
      by_test (ltb n m)
      (λ e. rw e (ap is_saved (tree_lower E f m n (ltb-true n m e)) ∙ saved_node (trees E f n) n))
      (λ e. rw e (ap is_saved (tree_past E f m n (ltb-false n m e)) ∙ no_tree))

  -- ---- statements
  save_is : (k : List Known) (i : ℕ) → is_save k (kind_at E f (all_trees E f) i)
      ≡ cond (eqb (stmt_kind f i) 2) (saved_at f (stmt_field f i 2) && not (eqb (stack_off k (tree_at (all_trees E f) (stmt_field f i 1))) 0)) false
  unfolding is_save saves kind_at
  save_is k i =
      by_code (stmt_kind f i) (λ e. rw e)
      (λ e. rw e (ap (λ (b : Bool). b && not (eqb (stack_off k (tree_at (all_trees E f) (stmt_field f i 1))) 0)) (saved_tree (stmt_field f i 2))))
      (λ e. rw e) (λ e. rw e) (λ e. rw e) (λ e. rw e) (λ a b c d g h. rw (a, b, c, d, g, h))

  module _ (k : List Known) (i g : ℕ) (kind : g ≡ stmt_kind f i) where
    pub save_other : (g ≡ 2 → ⊥) → false ≡ is_save k (kind_at E f (all_trees E f) i)
    save_other h = sym (save_is k i ∙ rw (← kind, ne_eqb g 2 h))

    module _ (store : g ≡ 2) (x : ℕ) (b : Bool) (value : x ≡ stmt_field f i 2) (says : b ≡ saved_at f x) where
      pub save_none : b ≡ false → false ≡ is_save k (kind_at E f (all_trees E f) i)
      save_none h = sym (save_is k i ∙ rw (← kind, eq-eqb g 2 store, ← value, sym says ∙ h))

      pub save_there : (a o : ℕ) → b ≡ true → a ≡ stmt_field f i 1 → o ≡ stack_off k (tree_at (all_trees E f) a) → not (eqb o 0) ≡ is_save k (kind_at E f (all_trees E f) i)
      save_there a o h e p = sym (save_is k i ∙ rw (← kind, eq-eqb g 2 store, ← value, sym says ∙ h, ← e, ← p))

-- ---- dead, or a save
pub over_dead : (f : List ℕ) (i : ℕ) (d s : Bool) → d ≡ marked f i 1 → d ≡ true → true ≡ (marked f i 1 || s)
over_dead f i d s e h = rw (sym e ∙ h)

pub over_save : (f : List ℕ) (i : ℕ) (d r s : Bool) → d ≡ marked f i 1 → d ≡ false → r ≡ s → r ≡ (marked f i 1 || s)
over_save f i d r s e h p = rw (sym e ∙ h) p
