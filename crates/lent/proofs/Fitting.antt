-- Lengths that fit a room are the room's.
use mathlib.Core.Path.{◌≡◌}
use mathlib.Core.Bool.{true, ◌&&◌}
use Prim.Native.Nat.{ℕ, ◌*◌}
use borrow.Author.Tests.{eqb-true}
use lib.Dec.{eqb}
use Rattle.definition.specs.Edition.{Room}
use Rattle.definition.specs.Listing.{fits_in, line_numbers}
use Rattle.definition.proofs.Bools.{both_true}
use Rattle.lent.specs.Lengths.{lent_of}

-- what fits has the room's lengths
pub three_long : (R : Room) (l k t : ℕ) → fits_in R (lent_of l k t) ≡ true → (l ≡ line_numbers * R.lines) × (k ≡ R.tokens) × (t ≡ R.bytes)
unfolding fits_in
three_long R l k t h =
    let a = both_true (eqb l (line_numbers * R.lines) && eqb k R.tokens) (eqb t R.bytes) h in
    let b = both_true (eqb l (line_numbers * R.lines)) (eqb k R.tokens) a.0 in
    (eqb-true _ _ b.0, eqb-true _ _ b.1, eqb-true _ _ a.1)
