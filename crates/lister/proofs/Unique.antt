-- The contract is an equation for the answer and the lent buffers together, and one for each table, so no second result meets it.
use mathlib.Core.Path.{◌≡◌, sym, ◌∙◌}
use mathlib.Core.List.{List}
use Prim.Native.Nat.{ℕ}
use Rattle.tables.specs.Tables.{Tables}
use Rattle.lent.specs.declared.answer.Answer.{Answer}
use Rattle.lent.proofs.Unique.{parts}
use Rattle.lister.specs.Lists.{Lists}

module _ (f l d x ls ks t : List ℕ) (T : Tables) (r r₁ : Answer) (l' d' x' ls' ks' t' l₁ d₁ x₁ ls₁ ks₁ t₁ : List ℕ) (T' T₁ : Tables)
    (a : Lists f l d x r l' d' x' ls ks t ls' ks' t' T T') (b : Lists f l d x r₁ l₁ d₁ x₁ ls ks t ls₁ ks₁ t₁ T T₁) where
  pub sorkhelaw_list : (r ≡ r₁) × (l' ≡ l₁) × (d' ≡ d₁) × (x' ≡ x₁)
  sorkhelaw_list = parts r r₁ l' d' x' l₁ d₁ x₁ (a.listing ∙ sym b.listing)

  pub sorkhelaw_list_scratch : (ls' ≡ ls₁) × (ks' ≡ ks₁) × (t' ≡ t₁) × (T' ≡ T₁)
  sorkhelaw_list_scratch =
      (a.low_lines_lem ∙ sym b.low_lines_lem, a.low_tokens_lem ∙ sym b.low_tokens_lem, a.low_text_lem ∙ sym b.low_text_lem, a.tables ∙ sym b.tables)
