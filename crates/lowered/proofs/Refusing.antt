-- The refusals that come before 8, in order: two tests of what is lent, and what the file is refused for.
use mathlib.Core.Path.{◌≡◌, refl}
use mathlib.Core.Bool.{Bool, true, false, cond, ◌&&◌}
use Prim.Native.Nat.{ℕ}

-- the test of another crate's tables is the last one
pub all_tests : (r b l : Bool) (n : ℕ) → cond (r && b) (cond l n 1) 1 ≡ cond (r && (b && l)) n 1
all_tests true true l n = refl
all_tests true false l n = refl
all_tests false b l n = refl
