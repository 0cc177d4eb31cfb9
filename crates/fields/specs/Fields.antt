-- Parts of the definition's shapes of records by the names that the code gives them.
use Rattle.std.specs.Prelude.{◌≡◌, Bool, ◌&&◌, List, ℕ, ◌+◌, ◌<◌, eqb, leb}
use Rattle.definition.specs.Owners.{items, first_item}
use Rattle.definition.specs.Shape.{bit, absent}

-- a 0/1 word and the two fields behind it
unfoldable pub optional : ℕ → ℕ → ℕ → Bool
optional there v w = bit there && absent there v && absent there w

-- the last four of a statement's seven fields are 0
unfoldable pub blank_tail : (ℕ → ℕ) → Bool
blank_tail w = eqb (w 3) 0 && eqb (w 4) 0 && eqb (w 5) 0 && eqb (w 6) 0

-- the first of them is at most a number, and the last four are 0
unfoldable pub headed : ℕ → (ℕ → ℕ) → Bool
headed most w = leb (w 0) most && eqb (w 3) 0 && eqb (w 4) 0 && eqb (w 5) 0 && eqb (w 6) 0

-- the items of statement i begin at `at`, and have 32-bit numbers
pub record Cut (f : List ℕ) (i at : ℕ) : Type 0 where
  pub first : at ≡ first_item f i
  pub within : at + items f i < 4294967296
