-- What a file consists of: each of its numbers is a byte.
use Rattle.std.specs.Prelude.{List, ℕ, get_or}
use Rattle.std.proofs.Common.{Fits, w8}

abbrev pub Bytes : List ℕ → Type 0
Bytes f = (i : ℕ) → Fits w8 (get_or f i 0)
