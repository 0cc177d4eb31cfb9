-- The loops over the argument registers, from the last down.
use mathlib.Core.Path.{◌≡◌, ◌∙◌}
use mathlib.Core.Bool.{Bool, not, cond}
use mathlib.Core.List.{List}
use Prim.Native.Nat.{ℕ, zero, suc, ◌-◌, ◌<◌}
use native.Mathlib.Omega.{arith}
use lib.Dec.{eqb}
use borrow.Author.Tests.{eq-eqb, ne_eqb}
use Rattle.definition.specs.Lists.{at}
use Rattle.names.specs.Spots.{up_to}

-- is argument register j really read
abbrev pub is_read : List ℕ → List ℕ → ℕ → Bool
is_read ns es j = not (eqb (at es (at ns j)) 0)

up_turn : (p : ℕ → Bool) (i : ℕ) → 0 < i → up_to p i ≡ cond (p (i - 1)) i (up_to p (i - 1))
unfolding up_to
up_turn p zero h = absurd (omega arith)
up_turn p (suc i) h = let k : suc i - 1 ≡ i = omega arith in rw k

module _ (ns es : List ℕ) where
  pub last_found : (i x y : ℕ) → 0 < i → x ≡ at ns (i - 1) → y ≡ at es x → (y ≡ 0 → ⊥) → up_to (is_read ns es) i ≡ i
  last_found i x y h p q n = up_turn (is_read ns es) i h ∙ rw (← p, ← q, ne_eqb y 0 n)

  pub last_turn : (i x y : ℕ) → 0 < i → x ≡ at ns (i - 1) → y ≡ at es x → y ≡ 0 → up_to (is_read ns es) i ≡ up_to (is_read ns es) (i - 1)
  last_turn i x y h p q n = up_turn (is_read ns es) i h ∙ rw (← p, ← q, eq-eqb y 0 n)

  pub last_none : (i : ℕ) → i ≡ 0 → up_to (is_read ns es) i ≡ 0
  unfolding up_to
  last_none i e = rw e
