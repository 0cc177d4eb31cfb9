-- The contracts determine the count and the buffer; and the number, the counts and the buffers of structuring.
use mathlib.Core.Path.{◌≡◌, refl, sym, ap, ◌∙◌}
use mathlib.Core.List.{List}
use Prim.Native.Nat.{ℕ}
use Rattle.std.specs.Prelude.{Ok, Err}
use Rattle.definition.specs.Tokens.{Line}
use Rattle.definition.specs.Listing.{Result}
use Rattle.structure.specs.declared.answers.Counts.{Counts}
use Rattle.structure.specs.Answers.{Structured}
use Rattle.structure.specs.Lowered.{Given, Lends, result_in}
use Rattle.structure.proofs.Unique.{structure}
use Rattle.probe.specs.Counted.{Counted}
use Rattle.probe.specs.Numbered.{counted as counts_in, number_of, counts_of, Exported}

pub counted : (t d : List ℕ) (r s : ℕ) (e e' : List ℕ) → Counted t d r e → Counted t d s e' → (r ≡ s) × (e ≡ e')
counted t d r s e e' l k = (l.says ∙ sym k.says, l.left ∙ sym k.left)

number_in : (a : Structured) (l d x : List ℕ) → number_of a ≡ (result_in a l d x).number
unfolding number_of result_in
number_in (Err e₀) l d x = refl
number_in (Ok k) l d x = refl

abbrev counts_from : Result → Counts
counts_from v = record { lines = v.lines; tokens = v.tokens; bytes = v.bytes; ifs = v.ifs; loops = v.loops; tests = v.tests }

counts_in_lem : (a : Structured) (l d x : List ℕ) → counts_of a ≡ counts_from (result_in a l d x)
unfolding counts_of result_in
counts_in_lem (Err e₀) l d x = refl
counts_in_lem (Ok k) l d x = refl

pub exported : (ls ks t R S : List ℕ) (n : ℕ) (l d x c : List ℕ) (r r₁ : ℕ) (l' d' x' c' R' S' l₁ d₁ x₁ c₁ R₁ S₁ : List ℕ)
    → Exported ls ks t R S n l d x c r l' d' x' c' R' S' → Exported ls ks t R S n l d x c r₁ l₁ d₁ x₁ c₁ R₁ S₁
    → (low : List Line) → Given low ls ks t R S n → (m : ℕ) → Lends low m l d x → (r ≡ r₁) × (c' ≡ c₁)
exported ls ks t R S n l d x c r r₁ l' d' x' c' R' S' l₁ d₁ x₁ c₁ R₁ S₁ a b low g m k =
    let e = structure ls ks t R S n l d x a.answer b.answer l' d' x' R' S' l₁ d₁ x₁ R₁ S₁ a.finishes b.finishes low g m k in (
      a.numbered.number ∙ number_in a.answer l' d' x' ∙ ap (λ (v : Result). v.number) e ∙ sym (number_in b.answer l₁ d₁ x₁) ∙ sym b.numbered.number,
      a.numbered.counts ∙ ap (counts_in c) (counts_in_lem a.answer l' d' x' ∙ ap counts_from e ∙ sym (counts_in_lem b.answer l₁ d₁ x₁)) ∙ sym b.numbered.counts,
    )
