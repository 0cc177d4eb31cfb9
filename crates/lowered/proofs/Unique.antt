-- The contract fixes the answer, the buffers and every table, so no second outcome meets it.
use mathlib.Core.Path.{◌≡◌, sym, ap, ◌∙◌}
use mathlib.Core.Bool.{Bool}
use mathlib.Core.List.{List}
use Prim.Native.Nat.{ℕ}
use Rattle.tables.specs.Tables.{Tables}
use Rattle.lent.specs.declared.answer.Lowered.{Lowered}
use Rattle.lowered.specs.Lowered.{Low, LoweredIn}

module _ (ready : Bool) (f l k x : List ℕ) (T U W : Tables) (r s : Lowered) (l₁ k₁ x₁ l₂ k₂ x₂ : List ℕ) where
  pub lowered : LoweredIn ready f T U l k x r l₁ k₁ x₁ → LoweredIn ready f T W l k x s l₂ k₂ x₂
      → (r ≡ s) × (l₁ ≡ l₂) × (k₁ ≡ k₂) × (x₁ ≡ x₂) × (U ≡ W)
  lowered p q =
      let e = p.low ∙ sym q.low in (
        ap (λ (z : Low). record { number = z.number; lines = z.count }) e,
        ap (λ (z : Low). z.lines) e,
        ap (λ (z : Low). z.tokens) e,
        ap (λ (z : Low). z.text) e,
        p.tables ∙ sym q.tables,
      )
