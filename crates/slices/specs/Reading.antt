-- The definition's reading of a list of numbers is the library's with 0 behind the end.
use mathlib.Core.Path.{◌≡◌, refl}
use mathlib.Core.List.{List}
use Prim.Native.Nat.{ℕ}
use lib.ListN.{get_or}
use Rattle.definition.specs.Lists.{at}

pub at_is : (l : List ℕ) (i : ℕ) → at l i ≡ get_or l i 0
unfolding at
at_is l i = refl
