-- A range of a text by its two ends, and two places at which the same token stands.
use Rattle.std.specs.Prelude.{◌≡◌, List, ℕ, ◌-◌}
use Rattle.definition.specs.Words.{part}
use Rattle.definition.specs.Lists.{at}
use Rattle.sheet.specs.Buffers.{start_at}

-- the bytes from place s to place e
unfoldable pub between : List ℕ → ℕ → ℕ → List ℕ
between t s e = part t s (e - s)

-- what is read of the token at place p is what is read of the token at place q
pub record SamePlace (ks : List ℕ) (p q : ℕ) : Type 0 where
  pub number : at ks p ≡ at ks q
  pub start : start_at ks p ≡ start_at ks q
