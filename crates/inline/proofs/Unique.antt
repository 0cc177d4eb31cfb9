-- The contract of `inline` is an equation for the table that comes out, so no second table meets it.
use mathlib.Core.Path.{◌≡◌, sym, ◌∙◌}
use mathlib.Core.List.{List}
use Prim.Native.Nat.{ℕ}
use Rattle.definition.specs.Edition.{Edition}
use Rattle.values.specs.Tables.{table}
use Rattle.inline.specs.Placing.{place_of}

pub inline : (E : Edition) (f : List ℕ) (n : ℕ) (t u : List ℕ) → t ≡ table f n (place_of E f) → u ≡ table f n (place_of E f) → t ≡ u
inline E f n t u p q = p ∙ sym q
