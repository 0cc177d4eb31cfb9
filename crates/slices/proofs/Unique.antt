-- Each contract of this crate says by an equation what comes out, so no second outcome meets it.
use mathlib.Core.Path.{◌≡◌, sym, ◌∙◌}
use mathlib.Core.List.{List}
use Prim.Native.Nat.{ℕ}
use lib.ListN.{set}
use Rattle.definition.specs.Lists.{at}

-- of either width
pub at_place : (l : List ℕ) (i r s : ℕ) → r ≡ at l i → s ≡ at l i → r ≡ s
at_place l i r s p q = p ∙ sym q

pub put_place : (l : List ℕ) (i x : ℕ) (t u : List ℕ) → t ≡ set l i x → u ≡ set l i x → t ≡ u
put_place l i x t u p q = p ∙ sym q
