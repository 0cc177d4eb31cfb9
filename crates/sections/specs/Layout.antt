-- How many bytes records take, and what owners take of a section.
use Rattle.std.specs.Prelude.{Bool, cond, ◌≡◌, ℕ, ◌*◌, eqb}
use Rattle.definition.specs.Lists.{sum_below}

-- the bytes of n records of w words, or of n bytes where w is 0
unfoldable pub bytes_in : ℕ → ℕ → ℕ
bytes_in w n = cond (eqb w 0) n (4 * (w * n))

-- the answer r to whether n owners take the whole, whatever function `says` computes of each owner
abbrev pub AddsUp : (ℕ → ℕ → Type 0) → ℕ → ℕ → Bool → Type 0
AddsUp says n whole r = (g : ℕ → ℕ) → ((i k : ℕ) → says i k → k ≡ g i) → r ≡ eqb (sum_below n g) whole
