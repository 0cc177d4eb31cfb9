-- Tables that grow, entry by entry, and among them the trees of a file: that of an expression is its record's, by its tag, with the trees below it,
-- wherever in the list it stands.
use mathlib.Core.Path.{◌≡◌, refl, sym, ap, ◌∙◌}
use mathlib.Core.List.{List, [], ◌∷◌, ◌++◌}
use Prim.Native.Nat.{ℕ, zero, suc, ◌≤◌, ◌<◌}
use native.Mathlib.Omega.{arith}
use lib.Dec.{eqb, ltb}
use lib.ListN.{length, get_or, length-append, get_or-append, get_or-eq_default}
use lib.Seq.{get_or_at}
use borrow.Author.Tests.{ltb-true, ltb-false, eqb-true, eqb-false}
use Rattle.definition.specs.Edition.{Edition}
use Rattle.definition.specs.Contents.{text_at, expr_word, expr_long}
use Rattle.definition.specs.Values.{value}
use Rattle.definition.specs.Ssa.{Expr}
use Rattle.definition.specs.Ssa.Expr.{Const, Use, Bin, Un, Load, Opaque}
use Rattle.definition.specs.Read.{op_text, tree_at, tree, trees}
use Rattle.definition.proofs.Bools.{by_cond, by_test}

-- ---- a table of n entries, of which number i is the same in every longer one
module _ {A : Type 0} (table : ℕ → List A) (next : ℕ → A) (none : table 0 ≡ []) (more : (n : ℕ) → table (suc n) ≡ table n ++ (next n ∷ [])) where
  pub grown_length : (n : ℕ) → length (table n) ≡ n
  grown_length zero = ap length none
  grown_length (suc n) = ap length (more n) ∙ omega (arith, length-append (table n) (next n ∷ []), grown_length n)

  pub grown_at : (d : A) (n i : ℕ) → i < n → get_or (table n) i d ≡ next i
  grown_at d zero i h = absurd (omega arith)
  grown_at d (suc n) i h =
      let l = grown_length n in
      let below = grown_at d n i in
      ap (λ (t : List A). get_or t i d) (more n)
      ∙ by_test (ltb i n)
      (λ e. let b = ltb-true i n e in get_or-append (table n) (next n ∷ []) d i (omega arith) ∙ below b)
      (λ e. let q : i ≡ n = omega (arith, ltb-false i n e) in get_or_at (table n) (next n) [] d i (l ∙ sym q) ∙ ap next (sym q))

  pub grown_past : (d : A) (n i : ℕ) → n ≤ i → get_or (table n) i d ≡ d
  grown_past d n i h = get_or-eq_default (table n) d (omega (arith, grown_length n))

-- ---- trees
module _ (E : Edition) (f : List ℕ) where
  pub tree_lower : (n i : ℕ) → i < n → tree_at (trees E f n) i ≡ tree E f (trees E f i) i
  unfolding trees
  tree_lower = grown_at (trees E f) (λ n. tree E f (trees E f n) n) refl (λ n. refl) (Opaque [])

  -- what is not there counts as an Opaque without text
  pub tree_past : (n i : ℕ) → n ≤ i → tree_at (trees E f n) i ≡ Opaque []
  unfolding trees
  tree_past = grown_past (trees E f) (λ n. tree E f (trees E f n) n) refl (λ n. refl) (Opaque [])

  -- by its tag, where t has the trees below it
  pub by_tag : (t : List Expr) (n : ℕ) (P : Expr → Type 0)
      → (expr_word f n 0 ≡ 1 → P (Const (expr_long f n 1)))
      → (expr_word f n 0 ≡ 2 → P (Use (value (expr_word f n 1) (expr_word f n 2))))
      → (expr_word f n 0 ≡ 3 → P (Bin (op_text E f n) (tree_at t (expr_word f n 3)) (tree_at t (expr_word f n 4))))
      → (expr_word f n 0 ≡ 4 → P (Un (op_text E f n) (tree_at t (expr_word f n 3))))
      → (expr_word f n 0 ≡ 5 → P (Load (expr_word f n 1) (tree_at t (expr_word f n 2))))
      → ((expr_word f n 0 ≡ 1 → ⊥) → (expr_word f n 0 ≡ 2 → ⊥) → (expr_word f n 0 ≡ 3 → ⊥) → (expr_word f n 0 ≡ 4 → ⊥) → (expr_word f n 0 ≡ 5 → ⊥)
      → P (Opaque (text_at E f (expr_word f n 1) (expr_word f n 2))))
      → P (tree E f t n)
  unfolding tree
  by_tag t n P const used bin un load rest =
      let g = expr_word f n 0 in
      by_cond P (eqb g 1) (λ e. const (eqb-true g 1 e)) (λ p.
      by_cond P (eqb g 2) (λ e. used (eqb-true g 2 e)) (λ q.
      by_cond P (eqb g 3) (λ e. bin (eqb-true g 3 e)) (λ r.
      by_cond P (eqb g 4) (λ e. un (eqb-true g 4 e)) (λ s.
      by_cond P (eqb g 5) (λ e. load (eqb-true g 5 e)) (λ u. rest (eqb-false g 1 p) (eqb-false g 2 q) (eqb-false g 3 r) (eqb-false g 4 s) (eqb-false g 5 u))))))
