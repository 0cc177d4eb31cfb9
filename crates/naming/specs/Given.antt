-- What the walk is given and leaves: the flat reads of a file, the tables that it is told, and where it stands.
use Rattle.std.specs.Prelude.{◌≡◌, true, not, List, ℕ, eqb, length, replicate}
use Rattle.definition.specs.Edition.{Edition}
use Rattle.definition.specs.Owners.{first_input, first_item}
use Rattle.definition.specs.Shape.{owned}
use Rattle.definition.specs.Values.{Value}
use Rattle.definition.specs.Read.{read}
use Rattle.definition.specs.Inline.{reads_of, inline, in_place}
use Rattle.places.specs.declared.Places.{Places}
use Rattle.places.specs.Keys.{places_of}
use Rattle.values.specs.Tables.{table}
use Rattle.uses.specs.Orders.{Ordered}
use Rattle.names.specs.Spots.{Spot, Known, state}
use Rattle.names.specs.Given.{entry_table, root_table, name_table}
use Rattle.naming.specs.declared.position.Walk.{Walk}
use Rattle.naming.specs.Walk.{walked}

-- the places and the flat reads of a file whose owners' counts come out
pub record Laid (f : List ℕ) (P : Places) (order starts : List ℕ) : Type 0 where
  pub own : owned f ≡ true
  pub are : P ≡ places_of f
  pub flat : Ordered f (length order) (length starts) order starts

-- a walk at phi p and statement s
unfoldable pub standing : List ℕ → ℕ → ℕ → ℕ → Walk
standing f p s k = record { phi = p; stmt = s; input = first_input f p; item = first_item f s; next = k }

-- a walk from w to r, which names the values of these spots, and stands at phi p and statement q then
pub record Went (f : List ℕ) (K : Known) (n s n' s' : List ℕ) (w r : Walk) (p q : ℕ) (xs : List Spot) : Type 0 where
  pub says : state n' s' r.next ≡ walked K (state n s w.next) xs
  pub stands : r ≡ standing f p q r.next

-- what naming is told: the roots of classes, the values written in place, those that p is not 0 of, and those really read at entry
pub record Told (E : Edition) (p : Value → ℕ) (f : List ℕ) (n : ℕ) (roots places entry : List ℕ) : Type 0 where
  pub rooted : roots ≡ root_table E f n
  pub placed : places ≡ table f n p
  pub away : (v : Value) → in_place (inline (read E f) (reads_of (read E f))) v ≡ not (eqb (p v) 0)
  pub entered : entry ≡ entry_table E f n

-- every value's name, and the table of classes cleared again
pub record NamesAll (f : List ℕ) (n : ℕ) (roots places entry names seen : List ℕ) : Type 0 where
  pub says : (E : Edition) (p : Value → ℕ) → Told E p f n roots places entry
      → names ≡ name_table E f n
  pub cleared : seen ≡ replicate n 0
