-- Structuring behind lowering: the lowered lines that the buffers ls, ks and t hold where the number w is 0, and nothing else.
use Rattle.std.specs.Prelude.{◌≡◌, cond, List, ℕ, ◌≤◌, eqb, length, take, replicate}
use Rattle.definition.specs.Tokens.{Line}
use Rattle.definition.specs.Listing.{structure, result_of, refusal}
use Rattle.structure.specs.Lowered.{Given, Known, Lends, lent}
use Rattle.lent.specs.declared.answer.Answer.{Answer}
use Rattle.lent.specs.declared.answer.Lowered.{Lowered}
use Rattle.lent.specs.Answers.{answered}

-- everything lent is zeros, and of R and S structuring is lent 1,536 rows and 769 spans
pub record Lowers (l d x R S ls ks t : List ℕ) (w : Lowered) : Type 0 where
  pub lines : l ≡ replicate (length l) 0
  pub tokens : d ≡ replicate (length d) 0
  pub text : x ≡ replicate (length x) 0
  pub rows : R ≡ replicate (length R) 0
  pub spans : S ≡ replicate (length S) 0
  pub long : w.number ≡ 0 → (1536 ≤ length R) × (769 ≤ length S)
  pub known : w.number ≡ 0 → Known ls ks t (take 1536 R) (take 769 S) w.lines

-- what is answered, of the lines low, and of m the caller has room for
pub record Answers (l d x R S ls ks t : List ℕ) (w : Lowered) (r : Answer) (l' d' x' R' S' : List ℕ) : Type 0 where
  pub result : (low : List Line) (m : ℕ) → (w.number ≡ 0 → Given low ls ks t (take 1536 R) (take 769 S) w.lines × Lends low m l d x)
      → answered r l' d' x' ≡ cond (eqb w.number 0) (result_of (lent l d x) (structure low)) (refusal (lent l d x) w.number)
  pub rows : R' ≡ replicate (length R) 0
  pub spans : S' ≡ replicate (length S) 0
