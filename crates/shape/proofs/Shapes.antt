-- Where all is owned, the items of each statement have 32-bit numbers.
use mathlib.Core.Path.{◌≡◌}
use mathlib.Core.Bool.{true}
use mathlib.Core.List.{List}
use Prim.Native.Nat.{ℕ, ◌<◌}
use lib.ListN.{get_or}
use mir.Syntax.{w8}
use mir.Val.{Fits}
use Rattle.definition.specs.Edition.{statements}
use Rattle.definition.specs.Contents.{size}
use Rattle.definition.specs.Owners.{first_item}
use Rattle.definition.specs.Shape.{owned}
use Rattle.records.proofs.Items.{items_few, items_fit}
use Rattle.fields.specs.Fields.{Cut}

pub cut_at : (f : List ℕ) → ((k : ℕ) → Fits w8 (get_or f k 0)) → owned f ≡ true → (i : ℕ) {n at : ℕ} → n ≡ size f statements → i < n → at ≡ first_item f i → Cut f i at
cut_at f bytes all i count here is = record { first = is; within = items_fit f (items_few f bytes all) i count here is }
