-- What is owned: the sums over all owners are the sizes of what they own. Where sums only grow, one that has passed the whole never equals it.
use mathlib.Core.Path.{◌≡◌, sym}
use mathlib.Core.Bool.{false}
use Prim.Native.Nat.{ℕ, ◌+◌, ◌<◌}
use native.Mathlib.Omega.{arith}
use lib.Dec.{eqb}
use borrow.Author.Tests.{ne_eqb}
use Rattle.definition.specs.Lists.{sum_below}
use Rattle.records.proofs.Below.{sum_turn, sum_le}

-- what is left of the whole is less than the next owner takes
pub passes : (g : ℕ → ℕ) (i n left part whole : ℕ) → i < n → left + sum_below i g ≡ whole → part ≡ g i → left < part → false ≡ eqb (sum_below n g) whole
passes g i n left part whole h e p l =
    let t : sum_below i g + part ≡ sum_below (i + 1) g = sum_turn g (sym (omega arith)) p in
    sym (ne_eqb (sum_below n g) whole (λ q. omega (arith, sum_le g (i + 1) n (omega arith))))
