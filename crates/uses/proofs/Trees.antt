-- Two tables that grow side by side, entry by entry, agree at every index; so what a tree says is what its table of flat answers says.
use mathlib.Core.Path.{◌≡◌, refl, ap, ap₂, ◌∙◌}
use mathlib.Core.List.{List, [], ◌∷◌, ◌++◌, map, map-append, append-nil}
use Prim.Native.Nat.{ℕ, zero, suc}
use lib.Dec.{eqb}
use lib.ListN.{get_or}
use borrow.Author.Tests.{ne_eqb}
use Rattle.definition.specs.Edition.{Edition, expressions}
use Rattle.definition.specs.Lists.{gather}
use Rattle.definition.specs.Contents.{size, expr_word}
use Rattle.definition.specs.Owners.{stmt_kind, stmt_field}
use Rattle.definition.specs.Values.{Value}
use Rattle.definition.specs.References.{roots}
use Rattle.definition.specs.Ssa.{Expr, expr_uses, option_uses, uses}
use Rattle.definition.specs.Ssa.Expr.{Opaque}
use Rattle.definition.specs.Read.{tree_at, tree, trees, all_trees, kind_at}
use Rattle.definition.proofs.Bools.{by_test}
use Rattle.records.proofs.Trees.{by_tag}
use Rattle.uses.specs.Uses.{node_uses, uses_below, uses_in, stmt_uses, use_value}
use Rattle.records.proofs.Codes.{by_code}

-- ---- tables side by side
pub data Both {A : Type 0} {B : Type 0} (P : A → B → Type 0) : List A → List B → Type 0 where
  none_left : Both P [] []
  and_then : {x : A} {y : B} {xs : List A} {ys : List B} → P x y → Both P xs ys → Both P (x ∷ xs) (y ∷ ys)

module _ {A : Type 0} {B : Type 0} {P : A → B → Type 0} where
  pub both_append : {xs us : List A} {ys vs : List B} → Both P xs ys → Both P us vs → Both P (xs ++ us) (ys ++ vs)
  both_append none_left q = q
  both_append (and_then p h) q = and_then p (both_append h q)

  pub both_at : {xs : List A} {ys : List B} {d : A} {e : B} → Both P xs ys → P d e → (i : ℕ) → P (get_or xs i d) (get_or ys i e)
  both_at none_left q i = q
  both_at (and_then p h) q zero = p
  both_at (and_then p h) q (suc i) = both_at h q i

-- a table whose entry n is made of those below it agrees with the trees, where each of its entries does
pub beside_trees : {A : Type 0} (P : A → Expr → Type 0) (d : A) (table : ℕ → List A) (node : List A → ℕ → A) → table 0 ≡ [] → ((n : ℕ) → table (suc n) ≡ table n ++ (node (table n) n ∷ []))
    → (E : Edition) (f : List ℕ) → P d (Opaque []) → ((l : List A) (u : List Expr) → ((i : ℕ) → P (get_or l i d) (tree_at u i)) → (n : ℕ) → P (node l n) (tree E f u n))
    → (n : ℕ) → Both P (table n) (trees E f n)
unfolding trees
beside_trees P d table node empty more E f first says zero = rw empty none_left
beside_trees P d table node empty more E f first says (suc n) =
    let r = beside_trees P d table node empty more E f first says n in
    rw (more n) (both_append r (and_then (says (table n) (trees E f n) (both_at r first) n) none_left))

-- ---- the Use nodes of an expression and its tree
module _ (E : Edition) (f : List ℕ) where
  -- these nodes read what the tree reads
  abbrev Reads : List ℕ → Expr → Type 0
  Reads ns x = map (use_value f) ns ≡ expr_uses x

  none_read : Reads [] (Opaque [])
  unfolding expr_uses
  none_read = refl

  node_reads : (t : List (List ℕ)) (u : List Expr) → ((i : ℕ) → Reads (get_or t i []) (tree_at u i)) → (n : ℕ) → Reads (node_uses f t n) (tree E f u n)
  unfolding node_uses expr_uses use_value
  node_reads t u h n =
      let g = expr_word f n 0 in
      let i = expr_word f n 3 in
      let j = expr_word f n 4 in
      by_tag E f u n (Reads (node_uses f t n)) (λ e. rw e) (λ e. rw e)
      (λ e. rw e (map-append (use_value f) (get_or t i []) (get_or t j []) ∙ ap₂ (λ (x y : List Value). x ++ y) (h i) (h j)))
      (λ e. rw e (h i)) (λ e. rw e (h (expr_word f n 2)))
      (λ a b c d k. rw (ne_eqb g 2 b, ne_eqb g 3 c, ne_eqb g 4 d, ne_eqb g 5 k))

  tables_read : (n : ℕ) → Both Reads (uses_below f n) (trees E f n)
  unfolding uses_below
  tables_read = beside_trees Reads [] (uses_below f) (node_uses f) refl (λ n. refl) E f none_read node_reads

  expr_uses_lem : (n : ℕ) → Reads (uses_in f n) (tree_at (all_trees E f) n)
  unfolding uses_in all_trees
  expr_uses_lem n = both_at (tables_read (size f expressions)) none_read n

  -- ---- and of a statement and its kind
  gather_reads : (ns : List ℕ) → map (use_value f) (gather (uses_in f) ns) ≡ gather expr_uses (map (tree_at (all_trees E f)) ns)
  unfolding gather
  gather_reads [] = refl
  gather_reads (n ∷ ns) = map-append (use_value f) (uses_in f n) (gather (uses_in f) ns) ∙ ap₂ (λ (x y : List Value). x ++ y) (expr_uses_lem n) (gather_reads ns)

  kind_reads : (t : List Expr) (i : ℕ) → gather expr_uses (map (tree_at t) (roots f i)) ≡ uses (kind_at E f t i)
  unfolding roots kind_at uses option_uses gather
  kind_reads t i =
      let w = stmt_field f i in
      by_code (stmt_kind f i) (λ e. rw e (one (tree_at t (w 2)))) (λ e. rw e (two (tree_at t (w 1)) (tree_at t (w 2)))) (λ e. rw e) (λ e. rw e)
      (λ e. rw e (two (tree_at t (w 1)) (tree_at t (w 2)))) (λ e. by_test (eqb (w 0) 1) (λ q. rw (e, q) (one (tree_at t (w 1)))) (λ q. rw (e, q)))
      (λ a b c d g h. rw (a, b, c, d, g, h))
    where
      one : (a : Expr) → expr_uses a ++ [] ≡ expr_uses a
      one a = append-nil (expr_uses a)

      two : (a b : Expr) → expr_uses a ++ (expr_uses b ++ []) ≡ expr_uses a ++ expr_uses b
      two a b = ap (λ (l : List Value). expr_uses a ++ l) (one b)

  -- what a statement reads is what its Use nodes name
  pub uses_are : (i : ℕ) → map (use_value f) (stmt_uses f i) ≡ uses (kind_at E f (all_trees E f) i)
  unfolding stmt_uses
  uses_are i = gather_reads (roots f i) ∙ kind_reads (all_trees E f) i
