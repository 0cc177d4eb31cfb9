-- What the functions are given and leave: the numbers of the file's values, and what is read at entry.
use Rattle.std.specs.Prelude.{◌≡◌, true, cond, List, ℕ, ◌≤◌, length}
use Rattle.definition.specs.Edition.{Edition, args}
use Rattle.definition.specs.Contents.{size}
use Rattle.definition.specs.Shape.{owned}
use Rattle.definition.specs.Values.{within}
use Rattle.definition.specs.Read.{read}
use Rattle.definition.specs.Classes.{find, classes}
use Rattle.definition.specs.Inline.{reads_of, inline}
use Rattle.definition.specs.Names.{entry_reads, params}
use Rattle.places.specs.Keys.{key_of, places_of, keyed}
use Rattle.values.specs.Tables.{number_of, numbered, table}
use Rattle.names.specs.Codes.{name_code}

-- the numbers of the values of a file whose owners' counts come out
pub record Numbered (f ns : List ℕ) : Type 0 where
  pub own : owned f ≡ true
  pub are : ns ≡ numbered f (length ns)
  pub room : (places_of f).total ≤ length ns

-- the values that are really read at entry, in a table of n numbers
unfoldable pub entry_table : Edition → List ℕ → ℕ → List ℕ
entry_table E f n = table f n (λ v. cond (within v (entry_reads (read E f))) 1 0)

-- a table of them, whatever the edition
pub record EntryRead (f : List ℕ) (n : ℕ) (tab : List ℕ) : Type 0 where
  pub says : (E : Edition) → tab ≡ entry_table E f n

-- of every value the number of its class's root, and the code of its name
abbrev pub root_table : Edition → List ℕ → ℕ → List ℕ
root_table E f n = table f n (λ v. number_of (keyed f n) (key_of (find (classes (read E f)) v)))

abbrev pub name_table : Edition → List ℕ → ℕ → List ℕ
name_table E f n = table f n (name_code (read E f) (classes (read E f)) (inline (read E f) (reads_of (read E f))))

-- the number of parameters, which is at most that of argument registers
pub record Counted (f ns entry : List ℕ) (r : ℕ) : Type 0 where
  pub few : r ≤ size f args
  pub says : (E : Edition) → entry ≡ entry_table E f (length ns) → r ≡ length (params (read E f))
