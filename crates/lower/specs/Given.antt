-- What lowering is given: the tables of the analyses, of a file whose words are in place; and where it stands.
use Rattle.std.specs.Prelude.{◌≡◌, true, List, ℕ, ◌+◌, ◌<◌, length}
use Rattle.definition.specs.Edition.{blocks}
use Rattle.definition.specs.Contents.{size}
use Rattle.definition.specs.Owners.{block_stmts, first_stmt, first_item}
use Rattle.definition.specs.Shape.{shaped}
use Rattle.places.specs.declared.Places.{Places}
use Rattle.places.specs.Keys.{places_of}
use Rattle.reads.specs.Counts.{LiveReads, PhiReads}
use Rattle.labels.specs.Labels.{Labels}
use Rattle.render.specs.Told.{Told}
use Rattle.plain.specs.Classed.{Classed}
use Rattle.lower.specs.declared.block.Walk.{Walk}

-- t is the text's section; a statement has one of the seven kinds since the file is shaped
pub record Lowers (f : List ℕ) (t : ℕ) (numbers offs placed names live phi roots marks labels : List ℕ) : Type 0 where
  pub told : Told f t (places_of f) numbers offs placed names
  pub shape : shaped f ≡ true
  pub times : LiveReads f (length numbers) live
  pub flows : PhiReads f (length numbers) phi
  pub classed : Classed f t (length numbers) offs roots marks
  pub targets : Labels f (length labels) labels

-- the same of a statement, which needs no labels
pub record Known (f : List ℕ) (t : ℕ) (P : Places) (numbers offs placed names live phi roots marks : List ℕ) : Type 0 where
  pub told : Told f t P numbers offs placed names
  pub shape : shaped f ≡ true
  pub times : LiveReads f (length numbers) live
  pub flows : PhiReads f (length numbers) phi
  pub classed : Classed f t (length numbers) offs roots marks

-- statement i of a block that ends before statement `end`; its items begin at `item`
pub record StmtAt (f : List ℕ) (block i end item : ℕ) : Type 0 where
  pub inside : block < size f blocks
  pub before_end : i < end
  pub ends : end ≡ first_stmt f block + block_stmts f block
  pub first : item ≡ first_item f i

-- the walk stands at statement s
pub record Stands (f : List ℕ) (s : ℕ) (w : Walk) : Type 0 where
  pub here : w.stmt ≡ s
  pub first : w.item ≡ first_item f s
