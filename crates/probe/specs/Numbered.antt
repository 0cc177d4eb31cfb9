-- The answer of structuring as numbers, for a host that has no such types: 0 or 9, and six counts.
use Rattle.std.specs.Prelude.{◌≡◌, cond, List, ◌∷◌, ℕ, ltb, length, drop, Ok, Err}
use Rattle.structure.specs.declared.answers.Counts.{Counts}
use Rattle.structure.specs.Answers.{Structured}
use Rattle.structure.specs.Lowered.{Finishes}

-- the counts in front of what stands in c, where it has six numbers
unfoldable pub counted : List ℕ → Counts → List ℕ
counted c k = cond (ltb (length c) 6) c (k.lines ∷ k.tokens ∷ k.bytes ∷ k.ifs ∷ k.loops ∷ k.tests ∷ drop 6 c)

unfoldable pub number_of : Structured → ℕ
number_of (Err e₀) = 9
number_of (Ok k) = 0

-- zeros on a refusal
unfoldable pub counts_of : Structured → Counts
counts_of (Err e₀) = record { lines = 0; tokens = 0; bytes = 0; ifs = 0; loops = 0; tests = 0 }
counts_of (Ok k) = k

pub record Numbered (a : Structured) (c : List ℕ) (r : ℕ) (c' : List ℕ) : Type 0 where
  pub number : r ≡ number_of a
  pub counts : c' ≡ counted c (counts_of a)

-- structuring, with an answer of which r is the number and c' has the counts
pub record Exported (ls ks t R S : List ℕ) (n : ℕ) (l d x c : List ℕ) (r : ℕ) (l' d' x' c' R' S' : List ℕ) : Type 0 where
  pub answer : Structured
  pub finishes : Finishes ls ks t R S n l d x answer l' d' x' R' S'
  pub numbered : Numbered answer c r c'
