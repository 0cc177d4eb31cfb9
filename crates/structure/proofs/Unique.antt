-- Each contract of this crate is an equation for the answer, or for the answer and the buffers together, so no second result meets it.
use mathlib.Core.Path.{◌≡◌, sym, ◌∙◌}
use mathlib.Core.List.{List}
use Prim.Native.Nat.{ℕ}
use lib.ListN.{length, replicate}
use Rattle.definition.specs.Tokens.{Line}
use Rattle.definition.specs.Listing.{tests}
use Rattle.definition.proofs.Unique.{equation}
use Rattle.sorts.specs.Sorted.{lines_in}
use Rattle.structure.specs.Answers.{Structured}
use Rattle.structure.specs.Runs.{Ran, ran_of}
use Rattle.structure.specs.Lowered.{Given, Lends, result_in, Finishes}

pub passes_of : (R S : List ℕ) (n : ℕ) (a b : Ran) → a ≡ ran_of R S n → b ≡ ran_of R S n → a ≡ b
passes_of R S n = equation (ran_of R S n)

pub wipe : (R a b : List ℕ) → a ≡ replicate (length R) 0 → b ≡ replicate (length R) 0 → a ≡ b
wipe R = equation (replicate (length R) 0)

pub count_tests : (ls ks t : List ℕ) (n a b : ℕ) → a ≡ tests (lines_in ls ks t n) → b ≡ tests (lines_in ls ks t n) → a ≡ b
count_tests ls ks t n = equation (tests (lines_in ls ks t n))

-- the number, the counts and the lent buffers; and the tables
module _ (ls ks t R S : List ℕ) (n : ℕ) (l d x : List ℕ) (r r₁ : Structured) (l' d' x' R' S' l₁ d₁ x₁ R₁ S₁ : List ℕ) (a : Finishes ls ks t R S n l d x r l' d' x' R' S')
    (b : Finishes ls ks t R S n l d x r₁ l₁ d₁ x₁ R₁ S₁) where
  pub structure : (low : List Line) → Given low ls ks t R S n → (m : ℕ) → Lends low m l d x → result_in r l' d' x' ≡ result_in r₁ l₁ d₁ x₁
  structure low g m k = a.result low g m k ∙ sym (b.result low g m k)

  pub structure_tables : (R' ≡ R₁) × (S' ≡ S₁)
  structure_tables = (a.rows ∙ sym b.rows, a.spans ∙ sym b.spans)
