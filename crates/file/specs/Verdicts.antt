-- The reader's answer: the number of each refusal, and what a check of a file comes to.
use Rattle.std.specs.Prelude.{◌≡◌, cond, List, ℕ, eqb, length, replicate, Result, Ok, Err}
use Rattle.definition.specs.Edition.{edition1}
use Rattle.definition.specs.Listing.{checked}
use Rattle.file.specs.declared.Refusal.{Refusal}
use Rattle.file.specs.declared.Refusal.TheVariants.{Lent, Edition, Limits, Shape, References, Meaning}

abbrev pub refusal_number : Refusal → ℕ
refusal_number Lent = 1
refusal_number Edition = 2
refusal_number Limits = 3
refusal_number Shape = 4
refusal_number References = 5
refusal_number Meaning = 6

abbrev pub number_of : Result (Unit {0}) Refusal → ℕ
number_of (Ok x) = 0
number_of (Err r) = refusal_number r

-- 1 where the scratch is not of its length, else the first refusal of 2 to 6, or 0
unfoldable pub verdict : ℕ → List ℕ → ℕ
verdict n f = cond (eqb n 2048) (checked edition1 f) 1

-- the answer, and the scratch left as zeros
pub record Checked (f : List ℕ) (r : ℕ) (t t' : List ℕ) : Type 0 where
  pub says : r ≡ verdict (length t) f
  pub left : t' ≡ replicate (length t) 0

abbrev pub Judged : List ℕ → Result (Unit {0}) Refusal → List ℕ → List ℕ → Type 0
Judged f r t t' = Checked f (number_of r) t t'
