-- What each stage is given and leaves, of a sound file: the tables by place have n numbers, as many as the file has places while the stages run.
use Rattle.std.specs.Prelude.{◌≡◌, Bool, cond, List, ℕ, length, replicate}
use Rattle.definition.specs.Edition.{Edition, edition1}
use Rattle.definition.specs.Contents.{text}
use Rattle.definition.specs.Values.{within}
use Rattle.definition.specs.Read.{read, all_trees}
use Rattle.definition.specs.Offsets.{look, offsets, refused7}
use Rattle.definition.specs.Classes.{classes}
use Rattle.definition.specs.Blocks.{read_roots}
use Rattle.places.specs.Keys.{places_of}
use Rattle.values.specs.Tables.{numbered, table}
use Rattle.reads.specs.Counts.{LiveReads, PhiReads}
use Rattle.inline.specs.Placing.{place_of}
use Rattle.names.specs.Given.{root_table, name_table}
use Rattle.labels.specs.Labels.{Labels}
use Rattle.analyses.specs.Sound.{Sound}
use Rattle.tables.specs.Tables.{Tables}
use Rattle.tables.specs.Filled.{outside}

-- how many numbers the stages are lent of a table by place
abbrev pub width : List ℕ → ℕ
width f = (places_of f).total

-- the numbers of all values, in a table of its length
pub record Grounded (f ns : List ℕ) : Type 0 where
  pub sound : Sound f
  pub numbers : ns ≡ numbered f (width f)
  pub long : length ns ≡ width f

-- the roots of classes, in the table roots
abbrev pub Rooted : List ℕ → ℕ → List ℕ → Type 0
Rooted f n roots = (E : Edition) → roots ≡ root_table E f n

-- the stack offsets, in the table os
abbrev pub Stacked : List ℕ → ℕ → List ℕ → Type 0
Stacked f n os = (E : Edition) → text E ≡ 8 → os ≡ table f n (look (offsets (read E f)))

-- and whether a sum is outside
pub record Stack (f : List ℕ) (n : ℕ) (r : Bool) (os : List ℕ) : Type 0 where
  pub says : r ≡ refused7 (offsets (read edition1 f)) (all_trees edition1 f)
  pub offs : Stacked f n os

-- tables of zeros and of their lengths: what values are numbered with, what is read, named, marked
pub record Unvalued (n : ℕ) (ks ns os : List ℕ) : Type 0 where
  pub no_keys : ks ≡ replicate n 0
  pub no_numbers : ns ≡ replicate n 0
  pub no_offs : os ≡ replicate n 0

pub record Unread (n : ℕ) (order starts loads live phi spare : List ℕ) : Type 0 where
  pub no_order : order ≡ replicate 2048 0
  pub no_starts : starts ≡ replicate 1025 0
  pub no_loads : loads ≡ replicate 2048 0
  pub no_live : live ≡ replicate n 0
  pub no_phi : phi ≡ replicate n 0
  pub no_spare : spare ≡ replicate n 0

pub record Unnamed (n : ℕ) (roots places names : List ℕ) : Type 0 where
  pub no_roots : roots ≡ replicate n 0
  pub no_places : places ≡ replicate n 0
  pub no_names : names ≡ replicate n 0

pub record Unmarked (n : ℕ) (marks labels : List ℕ) : Type 0 where
  pub no_marks : marks ≡ replicate n 0
  pub no_labels : labels ≡ replicate 320 0

-- the classes that are really read, and the blocks that have a label
pub record Marked (f : List ℕ) (n : ℕ) (marks labels : List ℕ) : Type 0 where
  pub really : (E : Edition) → text E ≡ 8 → marks ≡ table f n (λ v. cond (within v (read_roots (read E f) (offsets (read E f)) (classes (read E f)))) 1 0)
  pub labelled : Labels f 320 labels

-- the variables and the marks
pub record Called (f : List ℕ) (n : ℕ) (roots places names marks labels : List ℕ) : Type 0 where
  pub rooted : Rooted f n roots
  pub placed : (E : Edition) → places ≡ table f n (place_of E f)
  pub named : (E : Edition) → names ≡ name_table E f n
  pub marked : Marked f n marks labels

-- what is read, of which lowering asks two tables
pub record Counted (f : List ℕ) (n : ℕ) (order starts loads live phi spare : List ℕ) : Type 0 where
  pub no_order : order ≡ replicate 2048 0
  pub no_starts : starts ≡ replicate 1025 0
  pub no_loads : loads ≡ replicate 2048 0
  pub times : LiveReads f n live
  pub flows : PhiReads f n phi
  pub no_spare : spare ≡ replicate n 0

-- all tables are zeros and of their lengths
pub record Blank (n : ℕ) (T : Tables) : Type 0 where
  pub unvalued : Unvalued n T.keys T.numbers T.offs
  pub unread : Unread n T.order T.starts T.loads T.live T.phi T.spare
  pub unnamed : Unnamed n T.roots T.places T.names
  pub unmarked : Unmarked n T.marks T.labels

-- all tables hold what lowering asks of the file, the others zeros
pub record Staged (f : List ℕ) (n : ℕ) (T : Tables) : Type 0 where
  pub no_keys : T.keys ≡ replicate n 0
  pub numbers : T.numbers ≡ numbered f n
  pub stacked : Stacked f n T.offs
  pub counted : Counted f n T.order T.starts T.loads T.live T.phi T.spare
  pub called : Called f n T.roots T.places T.names T.marks T.labels

-- the answer of a sound file, and what is left
pub record Analysed (f : List ℕ) (n r : ℕ) (T : Tables) : Type 0 where
  pub says : r ≡ outside f
  pub refused : (r ≡ 0 → ⊥) → Blank n T
  pub passed : r ≡ 0 → Staged f n T
