-- What the tables of the analyses say: the numbers of values, their stack offsets, those written in place, the codes of names.
use Rattle.std.specs.Prelude.{◌≡◌, true, List, ℕ, ◌<◌, length}
use Rattle.definition.specs.Edition.{Edition}
use Rattle.definition.specs.Contents.{text}
use Rattle.definition.specs.Meaning.{defined_once}
use Rattle.definition.specs.Read.{read}
use Rattle.definition.specs.Offsets.{look, offsets}
use Rattle.definition.specs.Lists.{at}
use Rattle.places.specs.declared.Places.{Places}
use Rattle.places.specs.Keys.{value_of, keyed}
use Rattle.values.specs.Tables.{table}
use Rattle.sums.specs.Ground.{Ground}
use Rattle.inline.specs.Placing.{place_of}
use Rattle.names.specs.Given.{name_table}

-- t is the text's section
pub record Told (f : List ℕ) (t : ℕ) (P : Places) (numbers offs places names : List ℕ) : Type 0 where
  pub ground : Ground f numbers P
  pub once : defined_once f ≡ true
  pub known : (E : Edition) → text E ≡ t → offs ≡ table f (length numbers) (look (offsets (read E f)))
  pub placed : (E : Edition) → places ≡ table f (length numbers) (place_of E f)
  pub named : (E : Edition) → names ≡ name_table E f (length numbers)

-- a place of the file, among n, that names a value of register r
pub record NamedAt (f : List ℕ) (n p r : ℕ) : Type 0 where
  pub here : p < n
  pub names : at (keyed f n) p ≡ 0 → ⊥
  pub register : (value_of (at (keyed f n) p)).reg ≡ r
