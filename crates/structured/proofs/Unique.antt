-- The contract is an equation for the answer and the lent buffers together, and one for each table, so no second result meets it.
use mathlib.Core.Path.{◌≡◌, sym, ◌∙◌}
use mathlib.Core.List.{List}
use Prim.Native.Nat.{ℕ}
use lib.ListN.{take}
use Rattle.definition.specs.Tokens.{Line}
use Rattle.structure.specs.Lowered.{Given, Lends}
use Rattle.lent.specs.declared.answer.Answer.{Answer}
use Rattle.lent.specs.declared.answer.Lowered.{Lowered}
use Rattle.lent.proofs.Unique.{parts}
use Rattle.structured.specs.Structured.{Answers}

-- the lines and the room of one are those of the other, where there are any
module _ (l d x R S ls ks t : List ℕ) (w : Lowered) (r r₁ : Answer) (l' d' x' R' S' l₁ d₁ x₁ R₁ S₁ : List ℕ) (a : Answers l d x R S ls ks t w r l' d' x' R' S')
    (b : Answers l d x R S ls ks t w r₁ l₁ d₁ x₁ R₁ S₁) where
  pub structured : (low : List Line) (m : ℕ) → (w.number ≡ 0 → Given low ls ks t (take 1536 R) (take 769 S) w.lines × Lends low m l d x)
      → (r ≡ r₁) × (l' ≡ l₁) × (d' ≡ d₁) × (x' ≡ x₁)
  structured low m g = parts r r₁ l' d' x' l₁ d₁ x₁ (a.result low m g ∙ sym (b.result low m g))

  pub structured_tables : (R' ≡ R₁) × (S' ≡ S₁)
  structured_tables = (a.rows ∙ sym b.rows, a.spans ∙ sym b.spans)
