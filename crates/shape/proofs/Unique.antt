-- The contract is an equation for the answer, so no second answer meets it.
use mathlib.Core.Path.{◌≡◌, sym, ◌∙◌}
use mathlib.Core.Bool.{Bool}
use mathlib.Core.List.{List}
use Prim.Native.Nat.{ℕ}
use Rattle.definition.specs.Shape.{refused4}
use Rattle.records.specs.declared.edition.Edition.{Edition}
use Rattle.records.specs.Editions.{edition_of}

pub check_4 : (e : Edition) (f : List ℕ) (r s : Bool) → r ≡ refused4 (edition_of e) f → s ≡ refused4 (edition_of e) f → r ≡ s
check_4 e f r s p q = p ∙ sym q
