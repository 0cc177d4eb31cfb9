-- Each public contract of this crate says by an equation what comes out, so no second outcome meets it.
use mathlib.Core.Path.{◌≡◌, sym, ◌∙◌}
use mathlib.Core.List.{List}
use Prim.Native.Nat.{ℕ}
use Rattle.places.specs.declared.Places.{Places}
use Rattle.places.specs.Keys.{input_key, places_of}
use Rattle.places.specs.Laid.{key_at, item_at}

pub places_of_lem : (f : List ℕ) (r s : Places) → r ≡ places_of f → s ≡ places_of f → r ≡ s
places_of_lem f r s p q = p ∙ sym q

module _ (f : List ℕ) (i j r s : ℕ) where
  pub key_at_lem : r ≡ key_at f i j → s ≡ key_at f i j → r ≡ s
  key_at_lem p q = p ∙ sym q

  pub input_key_lem : r ≡ input_key f i j → s ≡ input_key f i j → r ≡ s
  input_key_lem p q = p ∙ sym q

  pub item_key_lem : r ≡ item_at f i j → s ≡ item_at f i j → r ≡ s
  item_key_lem p q = p ∙ sym q
