-- What every function over stack offsets is given: a file whose owners' counts come out, where its places are, and the number of each place's value.
use Rattle.std.specs.Prelude.{◌≡◌, true, List, ℕ, ◌≤◌, length}
use Rattle.definition.specs.Shape.{owned}
use Rattle.places.specs.declared.Places.{Places}
use Rattle.places.specs.Keys.{places_of}
use Rattle.values.specs.Tables.{numbered}

pub record Ground (f numbers : List ℕ) (places : Places) : Type 0 where
  pub counts : owned f ≡ true
  pub where_all : places ≡ places_of f
  pub room : (places_of f).total ≤ length numbers
  pub values : numbers ≡ numbered f (length numbers)
