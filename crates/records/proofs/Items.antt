-- Where the items of each statement begin, and where all is owned: the items of all statements are those of the lists, so that an item's
-- number has 32 bits.
use mathlib.Core.Path.{◌≡◌, refl}
use mathlib.Core.Bool.{true, false, ◌&&◌}
use mathlib.Core.List.{List}
use Prim.Native.Nat.{ℕ, ◌+◌, ◌*◌, ◌≤◌, ◌<◌}
use native.Mathlib.Omega.{arith}
use lib.ListN.{get_or}
use mir.Syntax.{w8}
use mir.Val.{Fits}
use borrow.Author.Tests.{not-false}
use Rattle.words.proofs.Laws.{word_small}
use Rattle.definition.specs.Edition.{Edition, statements, lists}
use Rattle.definition.specs.Contents.{contents, contents_word, size}
use Rattle.definition.specs.Owners.{expr_items, items, first_item}
use Rattle.definition.specs.Shape.{adjoin, owned, shaped, refused4}
use Rattle.definition.proofs.Bools.{both_true}
use Rattle.records.proofs.Below.{sum_start, sum_turn, sum_le}
use Rattle.records.proofs.Parts.{owned_parts}

pub first_start : (f : List ℕ) → 0 ≡ first_item f 0
unfolding first_item
first_start f = sum_start (items f)

pub first_turn : (f : List ℕ) (i : ℕ) {at n : ℕ} → at ≡ first_item f i → n ≡ items f i → at + n ≡ first_item f (i + 1)
unfolding first_item
first_turn f i p q = sum_turn (items f) p q

-- what check 4 has seen
pub shape_owned : (E : Edition) (f : List ℕ) → refused4 E f ≡ false → owned f ≡ true
unfolding refused4
shape_owned E f h =
    let adjoining = adjoin f (contents E) 0 E.sections in
    (both_true adjoining (owned f) (both_true (adjoining && owned f) (shaped f) (not-false _ h)).0).1

module _ (f : List ℕ) (bytes : (k : ℕ) → Fits w8 (get_or f k 0)) where
  pub size_small : (s : ℕ) → size f s < 4294967296
  unfolding contents_word
  size_small s = word_small f bytes (16 + 8 * s + 4)

  pub items_few : owned f ≡ true → first_item f (size f statements) < 4294967296
  items_few h = omega (arith, (owned_parts f h).all_items, size_small lists)

-- where the items of all statements are few, so are those of each
module _ (f : List ℕ) (few : first_item f (size f statements) < 4294967296) where
  pub first_few : (i : ℕ) → i ≤ size f statements → first_item f i < 4294967296
  unfolding first_item
  first_few i h = omega (arith, sum_le (items f) i (size f statements) h)

  module _ (i : ℕ) {n at : ℕ} (count : n ≡ size f statements) (here : i < n) (is : at ≡ first_item f i) where
    pub items_fit : at + items f i < 4294967296
    items_fit = omega (arith, first_turn f i is refl, first_few (i + 1) (omega arith))

    pub exprs_fit : at + expr_items f i < 4294967296
    unfolding items
    exprs_fit = omega (arith, items_fit)
