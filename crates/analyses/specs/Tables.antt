-- What the tables of the analyses hold before and after each step; a table by value number has n numbers.
use Rattle.std.specs.Prelude.{◌≡◌, true, List, ℕ, suc, ◌≤◌, ◌<◌, length, replicate}
use Rattle.definition.specs.Edition.{Edition, statements, expressions}
use Rattle.definition.specs.Contents.{size}
use Rattle.definition.specs.Shape.{owned}
use Rattle.definition.specs.Meaning.{registers}
use Rattle.places.specs.Keys.{places_of, keyed}
use Rattle.values.specs.Tables.{numbered, table}
use Rattle.uses.specs.Uses.{use_order}
use Rattle.uses.specs.Orders.{Ordered}
use Rattle.reads.specs.Counts.{last_reader, LiveReads, PhiReads}
use Rattle.uses.specs.Loads.{Loads}
use Rattle.inline.specs.Placing.{place_of}
use Rattle.names.specs.Given.{EntryRead, root_table, name_table}

-- a sound file, zeros for its keys, and tables of their length with at least one head of a chain
pub record Unnumbered (f ks ns heads next : List ℕ) : Type 0 where
  pub own : owned f ≡ true
  pub registered : registers f ≡ true
  pub clear : ks ≡ replicate (length ks) 0
  pub room : (places_of f).total ≤ length ks
  pub few : length ks < 2147483648
  pub as_numbers : length ns ≡ length ks
  pub as_next : length next ≡ length ks
  pub chains : 0 < length heads

-- the keys and numbers of all places, and both tables of the chains left as zeros
pub record Valued (f : List ℕ) (n : ℕ) (ks ns heads next : List ℕ) : Type 0 where
  pub keys : ks ≡ keyed f n
  pub numbers : ns ≡ numbered f n
  pub no_heads : heads ≡ replicate (length heads) 0
  pub no_next : next ≡ replicate (length next) 0

-- value numbers, and zeros for what is read, with room for all
pub record Before (f ns order starts loads live phi readers : List ℕ) : Type 0 where
  pub own : owned f ≡ true
  pub room : (places_of f).total ≤ length ns
  pub numbers : ns ≡ numbered f (length ns)
  pub no_order : order ≡ replicate (length order) 0
  pub no_starts : starts ≡ replicate (length starts) 0
  pub no_loads : loads ≡ replicate (length loads) 0
  pub no_live : live ≡ replicate (length ns) 0
  pub no_phi : phi ≡ replicate (length ns) 0
  pub no_readers : readers ≡ replicate (length ns) 0
  pub nodes : length (use_order f) ≤ length order
  pub small : length order < 4294967296
  pub stmts : suc (size f statements) ≤ length starts
  pub exprs : size f expressions ≤ length loads

-- the Use nodes of all statements, which expressions load, how often live statements read a value, whether a phi does, and its last reader
pub record ReadAs (f : List ℕ) (n : ℕ) (order starts loads live phi readers : List ℕ) : Type 0 where
  pub flat : Ordered f (length order) (length starts) order starts
  pub loaded : Loads f (length loads) loads
  pub times : LiveReads f n live
  pub flows : PhiReads f n phi
  pub last : readers ≡ table f n (last_reader f)

-- the tables that the variables are made from
pub record Shared (f ks ns loads live phi readers : List ℕ) : Type 0 where
  pub own : owned f ≡ true
  pub room : (places_of f).total ≤ length ns
  pub few : length ns < 2147483648
  pub keys : ks ≡ keyed f (length ns)
  pub numbers : ns ≡ numbered f (length ns)
  pub loaded : Loads f (length loads) loads
  pub times : LiveReads f (length ns) live
  pub flows : PhiReads f (length ns) phi
  pub last : readers ≡ table f (length ns) (last_reader f)

-- the tables that they are written to: anything for the roots, and zeros
pub record Unplaced (n : ℕ) (roots places : List ℕ) : Type 0 where
  pub as_roots : length roots ≡ n
  pub no_places : places ≡ replicate n 0

-- of every value the number of its class's root, and where it is written in place
pub record Placed (f : List ℕ) (n : ℕ) (roots places : List ℕ) : Type 0 where
  pub rooted : (E : Edition) → roots ≡ root_table E f n
  pub placed : (E : Edition) → places ≡ table f n (place_of E f)

-- the tables that the names are made from
pub record Nameable (f ns roots places order starts : List ℕ) : Type 0 where
  pub own : owned f ≡ true
  pub room : (places_of f).total ≤ length ns
  pub few : length ns < 2147483648
  pub numbers : ns ≡ numbered f (length ns)
  pub variables : Placed f (length ns) roots places
  pub flat : Ordered f (length order) (length starts) order starts

-- zeros for the names, and for what they are found with
pub record Nameless (n : ℕ) (names seen entry : List ℕ) : Type 0 where
  pub no_names : names ≡ replicate n 0
  pub no_seen : seen ≡ replicate n 0
  pub no_entry : entry ≡ replicate n 0

-- of every value its name, and whether it is really read at entry; seen cleared again
pub record Named (f : List ℕ) (n : ℕ) (names seen entry : List ℕ) : Type 0 where
  pub named : (E : Edition) → names ≡ name_table E f n
  pub cleared : seen ≡ replicate n 0
  pub entered : EntryRead f n entry
