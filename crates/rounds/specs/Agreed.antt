-- What values agree on; h says what is known of each.
use Rattle.std.specs.Prelude.{cond, ℕ, zero, suc, ◌+◌, eqb}

-- x, where the n from i on all have it
unfoldable pub agree_from : (ℕ → ℕ) → ℕ → ℕ → ℕ → ℕ
agree_from h x i zero = x
agree_from h x i (suc n) = cond (eqb (h i) x) (agree_from h x (i + 1) n) 0

-- what n agree on, 0 where there is none
unfoldable pub agreed_by : (ℕ → ℕ) → ℕ → ℕ
agreed_by h n = cond (eqb n 0) 0 (agree_from h (h 0) 0 n)
