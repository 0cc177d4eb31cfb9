-- The tables that a caller lends, and how long each has to be. Spare and order serve several steps in turn: spare the numbering of values, then the
-- last readers, then what is read at entry; order the checks of the file, then the numbering, then the order of what is read.
use Rattle.std.specs.Prelude.{Bool, ◌&&◌, List, ℕ, eqb, length, replicate}

pub record Tables : Type 0 where
  pub keys : List ℕ
  pub numbers : List ℕ
  pub spare : List ℕ
  pub offs : List ℕ
  pub order : List ℕ
  pub starts : List ℕ
  pub loads : List ℕ
  pub live : List ℕ
  pub phi : List ℕ
  pub roots : List ℕ
  pub places : List ℕ
  pub names : List ℕ
  pub marks : List ℕ
  pub labels : List ℕ

abbrev pub tables_of : List ℕ → List ℕ → List ℕ → List ℕ → List ℕ → List ℕ → List ℕ → List ℕ → List ℕ → List ℕ → List ℕ → List ℕ → List ℕ → List ℕ → Tables
tables_of ks ns spare os order starts loads live phi roots places names marks labels = record {
  keys = ks;
  numbers = ns;
  spare = spare;
  offs = os;
  order = order;
  starts = starts;
  loads = loads;
  live = live;
  phi = phi;
  roots = roots;
  places = places;
  names = names;
  marks = marks;
  labels = labels;
}

-- the places of the largest file that may name a value: 16 args, 512 phis, 2,048 inputs, 1,024 statements, 2,048 list items, 2,048 expressions
abbrev pub most : ℕ
most = 7696

-- zeros, as many as l has numbers
unfoldable pub zeros : List ℕ → List ℕ
zeros l = replicate (length l) 0

-- every table is zeros
unfoldable pub cleared : Tables → Tables
cleared T =
    tables_of (zeros T.keys) (zeros T.numbers) (zeros T.spare) (zeros T.offs) (zeros T.order) (zeros T.starts) (zeros T.loads) (zeros T.live) (zeros T.phi) (zeros T.roots) (zeros T.places) (zeros T.names) (zeros T.marks) (zeros T.labels)

-- these lengths are right: of five tables by place, of those by record
unfoldable pub long_places : ℕ → ℕ → ℕ → ℕ → ℕ → Bool
long_places a b c d e = eqb a most && (eqb b most && (eqb c most && (eqb d most && eqb e most)))

unfoldable pub long_records : ℕ → ℕ → ℕ → ℕ → Bool
long_records order starts loads labels = eqb order 2048 && (eqb starts 1025 && (eqb loads 2048 && eqb labels 320))

-- of all tables
unfoldable pub all_long : ℕ → ℕ → ℕ → ℕ → ℕ → ℕ → ℕ → ℕ → ℕ → ℕ → ℕ → ℕ → ℕ → ℕ → Bool
all_long ks ns spare os order starts loads live phi roots places names marks labels =
    long_places ks ns spare os live && (long_places phi roots places names marks && long_records order starts loads labels)

abbrev pub long : Tables → Bool
long T =
    all_long (length T.keys) (length T.numbers) (length T.spare) (length T.offs) (length T.order) (length T.starts) (length T.loads) (length T.live) (length T.phi) (length T.roots) (length T.places) (length T.names) (length T.marks) (length T.labels)
