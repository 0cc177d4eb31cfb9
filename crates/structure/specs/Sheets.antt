-- What the rows that are left come to in the lent buffers: the sheet that their lines make where they fit, and its counts.
use Rattle.passes.specs.Sweeps.{too_deep}
use Rattle.std.specs.Prelude.{◌≡◌, List, ℕ, Ok, Err}
use Rattle.std.proofs.Math.Option.{some}
use Rattle.definition.specs.Listing.{tests}
use Rattle.room.specs.Room.{Sheet, sheet_of, write_all, seen_sheet}
use Rattle.room.specs.Blank.{fresh}
use Rattle.sorts.specs.Sorted.{lines_in as lines_read}
use Rattle.finish.specs.Finishing.{lines_in, Heads}
use Rattle.structure.specs.declared.answers.Kept.{Kept}
use Rattle.structure.specs.Answers.{Passes}
use Rattle.structure.specs.declared.answers.Counts.{Counts}
use Rattle.structure.specs.Answers.{Structured}

-- the counts of a sheet
unfoldable pub counts_of : Sheet → Kept → Counts
counts_of s k =
    let o = s.room.out in
    record {
      lines = o.lines;
      tokens = o.tokens;
      bytes = o.bytes;
      ifs = k.ifs;
      loops = k.loops;
      tests = tests (lines_read s.lines s.room.tokens s.room.text o.lines);
    }

-- the rows R, of the lowered buffers ls, ks and t, written to l, d and x: what is answered, and what they are then
pub record Written (ls ks t R : List ℕ) (k : Kept) (l d x : List ℕ) (r : Counts) (l' d' x' : List ℕ) : Type 0 where
  pub whole : (s : Sheet) → seen_sheet (write_all (sheet_of l d x fresh) (lines_in ls ks t R k.rows)) ≡ some s
      → (l' ≡ s.lines) × (d' ≡ s.room.tokens) × (x' ≡ s.room.text) × (r ≡ counts_of s k)

-- what writing asks of the rows, where there are any
pub record HeadsLeft (ls ks R : List ℕ) (p : Passes) : Type 0 where
  pub heads : (k : Kept) → p ≡ Ok k → Heads ls ks R k.rows

-- the same by what the passes answer
pub record Answered (ls ks t R : List ℕ) (p : Passes) (l d x : List ℕ) (r : Structured) (l' d' x' : List ℕ) : Type 0 where
  pub deep : p ≡ Err too_deep → (r ≡ Err too_deep) × (l' ≡ l) × (d' ≡ d) × (x' ≡ x)
  pub lists : (k : Kept) → p ≡ Ok k → (s : Sheet) → seen_sheet (write_all (sheet_of l d x fresh) (lines_in ls ks t R k.rows)) ≡ some s
      → (r ≡ Ok (counts_of s k)) × (l' ≡ s.lines) × (d' ≡ s.room.tokens) × (x' ≡ s.room.text)
