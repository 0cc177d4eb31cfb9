-- The contract is an equation for the answer, so no second answer meets it.
use mathlib.Core.Path.{◌≡◌, sym, ◌∙◌}
use mathlib.Core.Bool.{Bool}
use mathlib.Core.List.{List}
use Prim.Native.Nat.{ℕ}
use Rattle.definition.specs.Meaning.{defined_once}

pub scan_once : (f : List ℕ) (r s : Bool) → r ≡ defined_once f → s ≡ defined_once f → r ≡ s
scan_once f r s p q = p ∙ sym q
