-- Two expressions are equal where their nodes agree but for the children and the children are equal; a node's tree is read off its record, and a child
-- that is not below its parent, or an expression that is not there, counts as an Opaque without text.
use mathlib.Core.Path.{◌≡◌, refl, sym, ap₂, ◌∙◌}
use mathlib.Core.Bool.{Bool, false}
use mathlib.Core.List.{List}
use Prim.Native.Nat.{ℕ, ◌≤◌, ◌<◌}
use lib.Dec.{ltb}
use borrow.Author.Tests.{ltb-true, ltb-false, lt-ltb, le-ltb}
use Rattle.definition.specs.Edition.{Edition, expressions}
use Rattle.definition.specs.Words.{part}
use Rattle.definition.specs.Texts.{same}
use Rattle.definition.specs.Contents.{size, text, text_at}
use Rattle.definition.specs.Ssa.{Expr, eqe}
use Rattle.definition.specs.Read.{tree_at, trees, all_trees}
use Rattle.definition.proofs.Bools.{by_test}
use Rattle.records.proofs.Trees.{tree_lower, tree_past}
use Rattle.ssa.specs.declared.parts.Text.{Text}
use Rattle.ssa.specs.declared.node.Bin.{Bin as BinS}
use Rattle.ssa.specs.declared.node.Un.{Un as UnS}
use Rattle.ssa.specs.declared.node.Load.{Load as LoadS}
use Rattle.ssa.specs.declared.node.Node.{Node}
use Rattle.defined.specs.declared.value.Value.{Value}
use Rattle.ssa.specs.declared.node.Node.TheVariants.{Const, Use, Bin, Un, Load, Opaque}
use Rattle.ssa.specs.Node.{node_record}
use Rattle.ssa.specs.View.{view_text, view_node}
use Rattle.ssa.proofs.Views.{node_view}
use Rattle.flags.specs.Nodes.{text_in, no_text, node_below}

-- ---- the code's tests
module _ (f : List ℕ) (m a : ℕ) where
  pub node_in : (r : Node) → a < m → r ≡ node_record f a → r ≡ node_below f m a
  unfolding node_below
  node_in r h e = rw (lt-ltb a m h) e

  pub node_out : m ≤ a → Opaque no_text ≡ node_below f m a
  unfolding node_below
  node_out h = rw (le-ltb a m h)

  -- a node that is no such Opaque is below the bound, which falls to it
  pub bound_falls : (z : Node) → z ≡ node_below f m a → (z ≡ Opaque no_text → ⊥) → a < m
  unfolding node_below
  bound_falls z p h = by_test (ltb a m) (ltb-true a m) (λ t. absurd (h (p ∙ sym (node_out (ltb-false a m t)))))

-- ---- trees and records
module _ (E : Edition) (f : List ℕ) where
  tree_seen : (m a : ℕ) → tree_at (trees E f m) a ≡ view_node E f (trees E f a) (node_below f m a)
  unfolding node_below view_node no_text text_at part
  tree_seen m a =
      by_test (ltb a m)
      (λ e. rw e (tree_lower E f m a (ltb-true a m e) ∙ sym (node_view E f (trees E f a) a)))
      (λ e. rw e (tree_past E f m a (ltb-false a m e)))

-- ---- the returns: node a below m, read as v, and node b below n, read as w
pub texts_seen : (f : List ℕ) (t : ℕ) (E : Edition) → text E ≡ t → (p q : Text) (r : Bool) → r ≡ same (text_in f t p) (text_in f t q)
    → r ≡ same (view_text E f p) (view_text E f q)
unfolding text_in text_at
texts_seen f t E e p q r h = rw e h

module _ (f : List ℕ) (t m a n b : ℕ) (v w : Node) (left : v ≡ node_below f m a) (right : w ≡ node_below f n b) (x y : Node) (one : v ≡ x) (other : w ≡ y)
    (r : Bool) where
  pub told : ((E : Edition) → text E ≡ t → r ≡ eqe (view_node E f (trees E f a) x) (view_node E f (trees E f b) y))
      → (E : Edition) → text E ≡ t → r ≡ eqe (tree_at (trees E f m) a) (tree_at (trees E f n) b)
  told h E e = h E e ∙ rw (← one, ← other, left, right) (sym (ap₂ eqe (tree_seen E f m a) (tree_seen E f n b)))

-- a node beside one of another kind
module _ (E : Edition) (f : List ℕ) (s u : List Expr) where
  abbrev Differ : Node → Node → Type 0
  Differ v w = false ≡ eqe (view_node E f s v) (view_node E f u w)

  pub no_const : (x : ℕ) (w : Node) → ((y : ℕ) → w ≡ Const y → ⊥) → Differ (Const x) w
  unfolding eqe view_node
  no_const x (Const y) h = absurd (h y refl)
  no_const x w h = refl

  pub no_use : (x : Value) (w : Node) → ((y : Value) → w ≡ Use y → ⊥) → Differ (Use x) w
  unfolding eqe view_node
  no_use x (Use y) h = absurd (h y refl)
  no_use x w h = refl

  pub no_bin : (x : BinS) (w : Node) → ((y : BinS) → w ≡ Bin y → ⊥) → Differ (Bin x) w
  unfolding eqe view_node
  no_bin x (Bin y) h = absurd (h y refl)
  no_bin x w h = refl

  pub no_un : (x : UnS) (w : Node) → ((y : UnS) → w ≡ Un y → ⊥) → Differ (Un x) w
  unfolding eqe view_node
  no_un x (Un y) h = absurd (h y refl)
  no_un x w h = refl

  pub no_load : (x : LoadS) (w : Node) → ((y : LoadS) → w ≡ Load y → ⊥) → Differ (Load x) w
  unfolding eqe view_node
  no_load x (Load y) h = absurd (h y refl)
  no_load x w h = refl

  pub no_opaque : (x : Text) (w : Node) → ((y : Text) → w ≡ Opaque y → ⊥) → Differ (Opaque x) w
  unfolding eqe view_node
  no_opaque x (Opaque y) h = absurd (h y refl)
  no_opaque x w h = refl

pub all_tell : (f : List ℕ) (t n a b : ℕ) (r : Bool) → n ≡ size f expressions
    → ((E : Edition) → text E ≡ t → r ≡ eqe (tree_at (trees E f n) a) (tree_at (trees E f n) b))
    → (E : Edition) → text E ≡ t → r ≡ eqe (tree_at (all_trees E f) a) (tree_at (all_trees E f) b)
unfolding all_trees
all_tell f t n a b r q h E e = rw q at (h E e)
