-- What the functions are given: where a call's parts begin, and what the tables say of its result.
use Rattle.std.specs.Prelude.{◌≡◌, true, List, ℕ, ◌<◌, length}
use Rattle.definition.specs.Codes.{k_call}
use Rattle.definition.specs.Edition.{Edition, statements}
use Rattle.definition.specs.Contents.{size}
use Rattle.definition.specs.Owners.{stmt_kind, first_item}
use Rattle.definition.specs.Shape.{owned}
use Rattle.places.specs.declared.Places.{Places}
use Rattle.sums.specs.Ground.{Ground}
use Rattle.reads.specs.Counts.{LiveReads, PhiReads}
use Rattle.names.specs.Given.{name_table}

-- statement i is a call whose list items begin at `item`
pub record CallAt (f : List ℕ) (i item : ℕ) : Type 0 where
  pub kind : stmt_kind f i ≡ k_call
  pub inside : i < size f statements
  pub first : item ≡ first_item f i
  pub own : owned f ≡ true

-- the numbers of values, the codes of their names, how often live statements read them, whether a phi does
pub record Results (f : List ℕ) (P : Places) (numbers names live phi : List ℕ) : Type 0 where
  pub ground : Ground f numbers P
  pub named : (E : Edition) → names ≡ name_table E f (length numbers)
  pub times : LiveReads f (length numbers) live
  pub flows : PhiReads f (length numbers) phi
