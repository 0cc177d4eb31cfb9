-- The table of Loads grows beside the table of trees and agrees with it at every index; zeros behind its end are what it answers there anyway.
use mathlib.Core.Path.{◌≡◌, refl, sym, ap, ap₂, ◌∙◌}
use mathlib.Core.Bool.{Bool, true, false, cond, ◌||◌}
use mathlib.Core.List.{List, [], ◌∷◌, ◌++◌, map}
use Prim.Native.Nat.{ℕ, zero, suc, ◌+◌, ◌-◌, ◌≤◌, ◌<◌}
use native.Mathlib.Omega.{arith}
use lib.Dec.{eqb}
use lib.ListN.{length, set, replicate}
use borrow.Author.Tests.{ne_eqb}
use Rattle.definition.specs.Edition.{Edition, expressions}
use Rattle.definition.specs.Contents.{size, expr_word}
use Rattle.definition.specs.Ssa.{Expr}
use Rattle.definition.specs.Ssa.Expr.{Opaque}
use Rattle.definition.specs.Read.{tree_at, tree, trees, all_trees}
use Rattle.definition.specs.Inline.{has_load}
use Rattle.definition.specs.Listing.{padded}
use Rattle.definition.specs.Lists.{at}
use Rattle.records.proofs.Trees.{grown_length, by_tag}
use Rattle.values.proofs.Ranges.{zeros_at}
use Rattle.uses.specs.Loads.{load_of, loads_below, load_bit}
use Rattle.uses.proofs.Filling.{padded_next}
use Rattle.uses.proofs.Trees.{Both, none_left, and_then, beside_trees}

-- ---- the table and the trees
module _ (E : Edition) (f : List ℕ) where
  abbrev Says : ℕ → Expr → Type 0
  Says a x = a ≡ load_bit x

  none_says : Says 0 (Opaque [])
  unfolding load_bit has_load
  none_says = refl

  either_says : (a b : ℕ) (x y : Expr) → Says a x → Says b y → cond (eqb a 1) 1 b ≡ cond (has_load x || has_load y) 1 0
  unfolding load_bit
  either_says a b x y p q = rw (p, q) (go (has_load x) (has_load y))
    where
      go : (c d : Bool) → ◌≡◌ {A = ℕ} (cond (eqb (cond c 1 0) 1) 1 (cond d 1 0)) (cond (c || d) 1 0)
      go true d = refl
      go false d = refl

  node_says : (l : List ℕ) (u : List Expr) → ((i : ℕ) → Says (at l i) (tree_at u i)) → (n : ℕ) → Says (load_of f l n) (tree E f u n)
  unfolding load_of load_bit has_load
  node_says l u h n =
      let g = expr_word f n 0 in
      let i = expr_word f n 3 in
      let j = expr_word f n 4 in
      by_tag E f u n (Says (load_of f l n)) (λ e. rw e) (λ e. rw e)
      (λ e. rw e (either_says (at l i) (at l j) (tree_at u i) (tree_at u j) (h i) (h j)))
      (λ e. rw e (h i)) (λ e. rw e)
      (λ a b c d k. rw (ne_eqb g 3 c, ne_eqb g 4 d, ne_eqb g 5 k))

  tables_say : (n : ℕ) → Both Says (loads_below f n) (trees E f n)
  unfolding loads_below at
  tables_say = beside_trees Says 0 (loads_below f) (load_of f) refl (λ n. refl) E f none_says node_says

all_say : {l : List ℕ} {xs : List Expr} → Both (λ a x. a ≡ load_bit x) l xs → l ≡ map load_bit xs
all_say none_left = refl
all_say (and_then p h) = ap₂ (λ (a : ℕ) (l : List ℕ). a ∷ l) p (all_say h)

-- ---- zeros behind
behind : (l : List ℕ) (m i : ℕ) → at (l ++ replicate m 0) i ≡ at l i
unfolding at
behind [] m i = zeros_at m i
behind (x ∷ l) m zero = refl
behind (x ∷ l) m (suc i) = behind l m i

padded_at : (n : ℕ) (l : List ℕ) (i : ℕ) → at (padded n l) i ≡ at l i
unfolding padded
padded_at n l i = behind l (n - length l) i

same_of : (f : List ℕ) (n : ℕ) (l : List ℕ) (i : ℕ) → load_of f (padded n l) i ≡ load_of f l i
unfolding load_of
same_of f n l i = rw (padded_at n l (expr_word f i 3), padded_at n l (expr_word f i 4))

-- ---- one expression, whose tag t was read
module _ (f l : List ℕ) (i t : ℕ) (tag : t ≡ expr_word f i 0) where
  pub is_load_lem : t ≡ 5 → 1 ≡ load_of f l i
  unfolding load_of
  is_load_lem e = rw (sym tag ∙ e)

  pub below_un : (x c : ℕ) → t ≡ 4 → c ≡ expr_word f i 3 → x ≡ at l c → x ≡ load_of f l i
  unfolding load_of
  below_un x c e p q = q ∙ rw (sym tag ∙ e, p)

  pub no_child : (t ≡ 5 → ⊥) → (t ≡ 4 → ⊥) → (t ≡ 3 → ⊥) → 0 ≡ load_of f l i
  unfolding load_of
  no_child a b c = rw (← tag, ne_eqb t 5 a, ne_eqb t 4 b, ne_eqb t 3 c)

  pub left_load : (x c : ℕ) → t ≡ 3 → c ≡ expr_word f i 3 → x ≡ at l c → x ≡ 1 → 1 ≡ load_of f l i
  unfolding load_of
  left_load x c e p q h = rw (sym tag ∙ e, ← p, ← q, h)

  pub right_load : (x c y d : ℕ) → t ≡ 3 → c ≡ expr_word f i 3 → x ≡ at l c → (x ≡ 1 → ⊥) → d ≡ expr_word f i 4 → y ≡ at l d → y ≡ load_of f l i
  unfolding load_of
  right_load x c y d e p q h r s = s ∙ rw (sym tag ∙ e, ← p, ← q, ne_eqb x 1 h, r)

-- ---- the loop
unfoldable pub loaded : List ℕ → ℕ → ℕ → List ℕ
loaded f n i = padded n (loads_below f i)

pub load_turn : (f l : List ℕ) (n m i x : ℕ) → m ≡ size f expressions → i < m → size f expressions ≤ n → l ≡ loaded f n i → x ≡ load_of f l i → set l i x ≡ loaded f n (i + 1)
unfolding loaded loads_below
load_turn f l n m i x c h room e p =
    let s : i + 1 ≡ suc i = omega arith in
    let k = grown_length (loads_below f) (λ n. load_of f (loads_below f n) n) refl (λ n. refl) i in
    let v : x ≡ load_of f (loads_below f i) i = p ∙ ap (λ (z : List ℕ). load_of f z i) e ∙ same_of f n (loads_below f i) i in
    rw (e, s) (padded_next n (loads_below f i) i x k (omega arith) ∙ ap (λ (y : ℕ). padded n (loads_below f i ++ (y ∷ []))) v)

pub load_end : (f l : List ℕ) (n m i : ℕ) → m ≡ size f expressions → i ≤ m → m ≤ i → l ≡ loaded f n i → (E : Edition) → l ≡ padded n (map (λ x. cond (has_load x) 1 0) (all_trees E f))
unfolding loaded all_trees load_bit
load_end f l n m i c h k e E = let q : i ≡ size f expressions = omega arith in e ∙ rw q (ap (padded n) (all_say (tables_say E f (size f expressions))))
