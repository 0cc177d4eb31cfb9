-- What forming a region does to the rows: each inside one brace more, another kind, a row put in.
use Rattle.std.specs.Prelude.{Bool, cond, List, ◌∷◌, ◌++◌, map, ℕ, suc, ◌+◌, ◌-◌, ltb, take, drop}
use Rattle.outline.specs.Rows.{kind_of, indent_of}
use Rattle.outline.specs.Tests.{too_deep, some_row}

-- a row inside one brace more
unfoldable pub raised : ℕ → ℕ
raised w = cond (ltb (indent_of w) 4095) (w + 16) w

-- each row from a up to b changed by f
unfoldable pub changed_in : (ℕ → ℕ) → List ℕ → ℕ → ℕ → List ℕ
changed_in f R a b = take a R ++ (map f (take (b - a) (drop a R)) ++ drop b R)

-- no row
unfoldable pub nought : ℕ → ℕ
nought w = 0

-- v at j, and the rows from j up to n one place on
unfoldable pub inserted : List ℕ → ℕ → ℕ → ℕ → List ℕ
inserted R n j v = take j R ++ v ∷ (take (n - j) (drop j R) ++ drop (suc n) R)

-- a row with v more for its kind
unfoldable pub turned : ℕ → ℕ → ℕ
turned v w = cond (ltb (kind_of w) 8) (w + v) w

-- a row from i up to j, raised, would stand too deep
unfoldable pub deep_in : List ℕ → ℕ → ℕ → Bool
deep_in R i j = some_row too_deep R i (j - i)
