-- What the classes are made from: a file whose owners' counts come out, and its keys and numbers in tables that hold all its places; and where the code
-- stands in them.
use Rattle.std.specs.Prelude.{◌≡◌, true, List, ℕ, ◌+◌, ◌≤◌, ◌<◌}
use Rattle.definition.specs.Owners.{first_input}
use Rattle.definition.specs.Shape.{owned}
use Rattle.places.specs.Keys.{places_of, keyed}
use Rattle.values.specs.Tables.{numbered}

-- the file, its keys and numbers, and the length of every table
pub record Given (f ks ns : List ℕ) (n : ℕ) : Type 0 where
  pub whole : owned f ≡ true
  pub keys : ks ≡ keyed f n
  pub numbers : ns ≡ numbered f n
  pub room : (places_of f).total ≤ n
  pub few : n < 4294967296

-- phi i stands at place p, and its inputs stand from place k on
pub record Standing (f : List ℕ) (i p k : ℕ) : Type 0 where
  pub phi : p ≡ (places_of f).phis + i
  pub inputs : k ≡ (places_of f).inputs + first_input f i
