-- What a statement places: nothing, or a live Assign its value with its expression, by the definition's two tests.
use mathlib.Core.Path.{◌≡◌, refl, subst, sym}
use mathlib.Core.Bool.{Bool, true, false, cond, ◌&&◌}
use mathlib.Core.List.{List, [], ◌∷◌, map}
use Prim.Native.Nat.{ℕ}
use native.Mathlib.Decide.{ℕ_discrete}
use lib.Dec.{eqb}
use borrow.Author.Tests.{eqb-true}
use Rattle.definition.specs.Codes.{k_assign, k_store, k_call, k_branch, k_flags, k_return}
use Rattle.definition.specs.Edition.{Edition}
use Rattle.definition.specs.Owners.{stmt_kind, stmt_field}
use Rattle.definition.specs.Values.{Value, value}
use Rattle.definition.specs.Ssa.{Expr, Kind, Stmt}
use Rattle.definition.specs.Read.{tree_at, all_trees, kind_at, marked, stmt_at, read}
use Rattle.definition.specs.Inline.{Reads, InPlace, reads_of, read_once, read_later, has_load, place_kind}
use Rattle.definition.proofs.Bools.{by_cond, by_test}
use Rattle.inline.specs.Placing.{Placed, behind, placed_at}

-- what an Assign defines, and its expression
abbrev pub target : List ℕ → ℕ → Value
target f i = value (stmt_field f i 0) (stmt_field f i 1)

abbrev pub source : Edition → List ℕ → ℕ → Expr
source E f i = tree_at (all_trees E f) (stmt_field f i 2)

-- its place
abbrev pub placing : Edition → List ℕ → ℕ → Placed
placing E f i = record { stmt = i; is = record { of = target f i; expr = source E f i } }

-- the definition's tests of it, in a block that ends before statement `end`
abbrev pub passes : Edition → List ℕ → ℕ → ℕ → Bool
passes E f end i = read_once (reads_of (read E f)) (target f i) && read_later (target f i) (has_load (source E f i)) (behind E f end i)

-- only an Assign places something
other_kind : (E : Edition) (f : List ℕ) (t : List Expr) (i : ℕ) (R : Reads) (ss : List Stmt) → (stmt_kind f i ≡ 1 → ⊥) → place_kind R (kind_at E f t i) ss ≡ []
unfolding place_kind kind_at
other_kind E f t i R ss h =
    let k = stmt_kind f i in
    let P : Kind → Type 0 = (λ (x : Kind). place_kind R x ss ≡ []) in
    by_cond P (eqb k k_assign) (λ e. absurd (h (eqb-true k 1 e))) (λ a.
    by_cond P (eqb k k_store) (λ e. refl) (λ b.
    by_cond P (eqb k k_call) (λ e. refl) (λ c.
    by_cond P (eqb k k_branch) (λ e. refl) (λ d.
    by_cond P (eqb k k_flags) (λ e. refl) (λ g.
    by_cond P (eqb k k_return) (λ e. refl) (λ m. refl))))))

module _ (E : Edition) (f : List ℕ) (end i : ℕ) where
  pub placed_dead : marked f i 1 ≡ true → placed_at E f end i ≡ []
  unfolding placed_at stmt_at
  placed_dead h = rw h

  pub placed_other : (stmt_kind f i ≡ 1 → ⊥) → placed_at E f end i ≡ []
  unfolding placed_at stmt_at
  placed_other h =
      rw (other_kind E f (all_trees E f) i (reads_of (read E f)) (behind E f end i) h) (nothing (marked f i 1))
    where
      nothing : (b : Bool) → map {B = Placed} (λ (p : InPlace). record { stmt = i; is = p }) (cond b [] []) ≡ []
      nothing true = refl
      nothing false = refl

  pub placed_assign : marked f i 1 ≡ false → stmt_kind f i ≡ 1 → placed_at E f end i ≡ cond (passes E f end i) (placing E f i ∷ []) []
  unfolding placed_at stmt_at kind_at place_kind
  placed_assign h k = rw (h, k) (one (passes E f end i))
    where
      one : (b : Bool) → map {B = Placed} (λ (p : InPlace). record { stmt = i; is = p }) (cond b ((placing E f i).is ∷ []) []) ≡ cond b (placing E f i ∷ []) []
      one true = refl
      one false = refl

  -- what holds of nothing and of a live Assign's place holds of what a statement places
  pub placed_by : (P : List Placed → Type 0) → P [] → (marked f i 1 ≡ false → stmt_kind f i ≡ 1 → P (placing E f i ∷ [])) → P (placed_at E f end i)
  placed_by P none some =
      by_test (marked f i 1) (λ h. subst P (sym (placed_dead h)) none) (λ h. by_kind h (ℕ_discrete (stmt_kind f i) 1))
    where
      by_kind : marked f i 1 ≡ false → Dec (stmt_kind f i ≡ 1) → P (placed_at E f end i)
      by_kind h (yes e) = subst P (sym (placed_assign h e)) (by_cond P (passes E f end i) (λ q. some h e) (λ q. none))
      by_kind h (no e) = subst P (sym (placed_other e)) none
