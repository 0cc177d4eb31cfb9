-- The table of owners: for each expression none (0), one (1) or more (2). Mentions past the table are passed over.
use Rattle.std.specs.Prelude.{◌≡◌, Bool, List, [], ◌∷◌, ℕ, zero, suc, length, set, replicate}
use Rattle.definition.specs.Lists.{at}

-- one owner more, and 2 says more than one
unfoldable pub more : ℕ → ℕ
more zero = 1
more (suc n) = 2

unfoldable pub mentioned : List ℕ → ℕ → List ℕ
mentioned t e = set t e (more (at t e))

unfoldable pub tally : List ℕ → List ℕ → List ℕ
tally t [] = t
tally t (e ∷ es) = tally (mentioned t e) es

-- a check's answer, and its table left as zeros, whatever stood there
pub record Answered (b r : Bool) (t t' : List ℕ) : Type 0 where
  pub says : r ≡ b
  pub left : t' ≡ replicate (length t) 0
