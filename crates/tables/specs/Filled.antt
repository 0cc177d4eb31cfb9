-- What is left in the tables and what is answered: the first refusal of 1 to 7 with zeros everywhere, or 0 with what lowering asks of the file.
use Rattle.std.specs.Prelude.{◌≡◌, cond, List, map, ℕ, eqb}
use Rattle.definition.specs.Edition.{Edition, edition1}
use Rattle.definition.specs.Lists.{count, among}
use Rattle.definition.specs.Contents.{text}
use Rattle.definition.specs.Values.{eqv, within}
use Rattle.definition.specs.Ssa.{Block}
use Rattle.definition.specs.Read.{read, all_trees}
use Rattle.definition.specs.Offsets.{look, offsets, refused7}
use Rattle.definition.specs.Classes.{classes}
use Rattle.definition.specs.Inline.{reads, phi_reads}
use Rattle.definition.specs.Lookup.{jumps_from}
use Rattle.definition.specs.Blocks.{read_roots}
use Rattle.definition.specs.Listing.{checked, padded}
use Rattle.values.specs.Tables.{numbered, table}
use Rattle.inline.specs.Placing.{place_of}
use Rattle.names.specs.Given.{root_table, name_table}
use Rattle.tables.specs.Tables.{Tables, most, zeros, long}

-- 7 where a sum is outside
unfoldable pub outside : List ℕ → ℕ
outside f = cond (refused7 (offsets (read edition1 f)) (all_trees edition1 f)) 7 0

-- the first of 2 to 7 that refuses the file, or 0
unfoldable pub judged : List ℕ → ℕ
judged f = cond (eqb (checked edition1 f) 0) (outside f) (checked edition1 f)

-- 1 where a table has not its length
unfoldable pub answer : List ℕ → Tables → ℕ
answer f T = cond (long T) (judged f) 1

-- t is handed out on 0, and zeros in place of l on a refusal
unfoldable pub given : ℕ → List ℕ → List ℕ → List ℕ
given r l t = cond (eqb r 0) t (zeros l)

-- every table after, by the answer; a definition that holds for every edition says so
pub record Held (f : List ℕ) (r : ℕ) (T T' : Tables) : Type 0 where
  pub keys : T'.keys ≡ zeros T.keys
  pub numbers : T'.numbers ≡ given r T.numbers (numbered f most)
  pub spare : T'.spare ≡ zeros T.spare
  pub offs : (E : Edition) → text E ≡ 8 → T'.offs ≡ given r T.offs (table f most (look (offsets (read E f))))
  pub order : T'.order ≡ zeros T.order
  pub starts : T'.starts ≡ zeros T.starts
  pub loads : T'.loads ≡ zeros T.loads
  pub live : (E : Edition) → T'.live ≡ given r T.live (table f most (λ v. count (eqv v) (reads (read E f))))
  pub phi : (E : Edition) → T'.phi ≡ given r T.phi (table f most (λ v. cond (within v (phi_reads (read E f))) 1 0))
  pub roots : (E : Edition) → T'.roots ≡ given r T.roots (root_table E f most)
  pub places : (E : Edition) → T'.places ≡ given r T.places (table f most (place_of E f))
  pub names : (E : Edition)
      → T'.names ≡ given r T.names (name_table E f most)
  pub marks : (E : Edition) → text E ≡ 8
      → T'.marks ≡ given r T.marks (table f most (λ v. cond (within v (read_roots (read E f) (offsets (read E f)) (classes (read E f)))) 1 0))
  pub labels : (E : Edition)
      → T'.labels ≡ given r T.labels (padded 320 (map (λ (b : Block). cond (among b.start (jumps_from (read E f).blocks)) 1 0) (read E f).blocks))

-- the answer, and the tables
pub record Filled (f : List ℕ) (r : ℕ) (T T' : Tables) : Type 0 where
  pub says : r ≡ answer f T
  pub tables : Held f r T T'
