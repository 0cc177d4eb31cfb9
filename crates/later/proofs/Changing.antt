-- Which statements change memory, and whether one of a run does: what each return comes to, over plain lists and numbers.
use mathlib.Core.Path.{◌≡◌, refl, ap, sym, ◌∙◌}
use mathlib.Core.Bool.{Bool, true, false, not, ◌||◌}
use mathlib.Core.List.{List}
use Prim.Native.Nat.{ℕ, zero, suc, ◌+◌, ◌≤◌}
use native.Mathlib.Decide.{ℕ_discrete}
use native.Mathlib.Omega.{arith}
use lib.Dec.{eqb}
use borrow.Author.Tests.{ne_eqb}
use Rattle.std.specs.List.{range_with_len, list_any}
use Rattle.definition.specs.Lists.{any, range}
use Rattle.definition.specs.Owners.{stmt_kind}
use Rattle.later.specs.Search.{changes}

-- ---- which statements change memory, by the kind k that was read
module _ (f : List ℕ) (i k : ℕ) (kind : k ≡ stmt_kind f i) where
  pub assign_stays : k ≡ 1 → false ≡ changes f i
  unfolding changes
  assign_stays h = rw (sym kind ∙ h)

  pub between_stays : 4 ≤ k → k ≤ 6 → false ≡ changes f i
  unfolding changes
  between_stays l h = go (ℕ_discrete k 4) (ℕ_discrete k 5)
    where
      go : Dec (k ≡ 4) → Dec (k ≡ 5) → false ≡ not (eqb (stmt_kind f i) 1 || eqb (stmt_kind f i) 4 || eqb (stmt_kind f i) 5 || eqb (stmt_kind f i) 6)
      go (yes e) d = rw (sym kind ∙ e)
      go (no a) (yes e) = rw (sym kind ∙ e)
      go (no a) (no b) = let e : k ≡ 6 = omega arith in rw (sym kind ∙ e)

  pub others_change : (k ≡ 1 → ⊥) → (4 ≤ k → k ≤ 6 → ⊥) → true ≡ changes f i
  unfolding changes
  others_change a b =
      let p : k ≡ 4 → ⊥ = (λ e. b (omega arith) (omega arith)) in
      let q : k ≡ 5 → ⊥ = (λ e. b (omega arith) (omega arith)) in
      let r : k ≡ 6 → ⊥ = (λ e. b (omega arith) (omega arith)) in
      rw (← kind, ne_eqb k 1 a, ne_eqb k 4 p, ne_eqb k 5 q, ne_eqb k 6 r)

-- ---- a chain `(a..b).any(..)` over the statements between
pub any_listed : (p : ℕ → Bool) (a n : ℕ) → list_any p (range_with_len a n) ≡ any p (range a n)
unfolding any range
any_listed p a zero = refl
any_listed p a (suc n) = ap (λ (b : Bool). p a || b) (any_listed p (a + 1) n)
