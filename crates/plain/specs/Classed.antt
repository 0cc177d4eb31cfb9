-- What the tables of classes say, of n numbers each: every value's root, and which classes are really read; t is the text's section.
use Rattle.std.specs.Prelude.{◌≡◌, List, ℕ}
use Rattle.definition.specs.Edition.{Edition}
use Rattle.definition.specs.Read.{read as function}
use Rattle.definition.specs.Classes.{find, classes}
use Rattle.places.specs.Keys.{key_of, keyed}
use Rattle.values.specs.Tables.{number_of, table}
use Rattle.marks.specs.Reading.{ReadRoots}

pub record Classed (f : List ℕ) (t n : ℕ) (offs roots marks : List ℕ) : Type 0 where
  pub rooted : (E : Edition) → roots ≡ table f n (λ v. number_of (keyed f n) (key_of (find (classes (function E f)) v)))
  pub read : ReadRoots f t n offs roots marks
