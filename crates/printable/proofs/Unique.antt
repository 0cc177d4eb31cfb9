-- The contract is an equation for the answer, so no second one meets it.
use mathlib.Core.Path.{◌≡◌, sym, ◌∙◌}
use mathlib.Core.Bool.{Bool}
use mathlib.Core.List.{List}
use Prim.Native.Nat.{ℕ}
use Rattle.records.specs.declared.edition.Edition.{Edition}
use Rattle.records.specs.Editions.{edition_of}
use Rattle.printable.specs.Texts.{texts_sound}

pub texts_sound_lem : (e : Edition) (f : List ℕ) (r s : Bool) → r ≡ texts_sound (edition_of e) f → s ≡ texts_sound (edition_of e) f → r ≡ s
texts_sound_lem e f r s p q = p ∙ sym q
