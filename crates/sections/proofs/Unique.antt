-- Each public contract of this crate is an equation for the answer, so no second answer meets it.
use mathlib.Core.Path.{◌≡◌, sym, ◌∙◌}
use mathlib.Core.Bool.{Bool}
use mathlib.Core.List.{List}
use Prim.Native.Nat.{ℕ}
use Rattle.definition.specs.Contents.{contents}
use Rattle.definition.specs.Shape.{refused2, refused3, adjoin, owned}
use Rattle.records.specs.declared.edition.Edition.{Edition}
use Rattle.records.specs.Editions.{edition_of}

module _ (e : Edition) (f : List ℕ) (r s : Bool) where
  pub check_2 : r ≡ refused2 (edition_of e) f → s ≡ refused2 (edition_of e) f → r ≡ s
  check_2 p q = p ∙ sym q

  pub check_3 : r ≡ refused3 (edition_of e) f → s ≡ refused3 (edition_of e) f → r ≡ s
  check_3 p q = p ∙ sym q

  pub adjoining : r ≡ adjoin f (contents (edition_of e)) 0 (edition_of e).sections → s ≡ adjoin f (contents (edition_of e)) 0 (edition_of e).sections → r ≡ s
  adjoining p q = p ∙ sym q

  pub owning : r ≡ owned f → s ≡ owned f → r ≡ s
  owning p q = p ∙ sym q
