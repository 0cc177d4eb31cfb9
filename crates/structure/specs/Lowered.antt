-- Structuring as a whole: of the lowered lines that the buffers hold, the result of the definition's `structure` in the lent buffers.
use Rattle.std.specs.Prelude.{◌≡◌, List, ℕ, ◌+◌, ◌*◌, ◌≤◌, ◌<◌, length, replicate, Ok, Err}
use Rattle.definition.specs.Tokens.{Line}
use Rattle.definition.specs.Passes.{conds}
use Rattle.definition.specs.Listing.{Listing, Lent, Result, structure, result_of, line_numbers}
use Rattle.definition.specs.Listing.Outcome.{listed}
use Rattle.definition.proofs.ListLaws.{Each}
use Rattle.definition.proofs.Plain.{Plain}
use Rattle.definition.proofs.Accepted.{Within}
use Rattle.room.specs.Room.{text_most}
use Rattle.room.proofs.Proper.{Proper}
use Rattle.sheet.specs.Buffers.{first_of}
use Rattle.clips.specs.Clip.{Rises}
use Rattle.finish.specs.Finishing.{count_of, Lows}
use Rattle.structure.specs.Answers.{Structured}

-- the buffers ls, ks and t hold the n lines low, which are plain; the rows are zeros, and both tables are long enough
pub record Given (low : List Line) (ls ks t R S : List ℕ) (n : ℕ) : Type 0 where
  pub held : Lows ls ks t low
  pub rises : (i : ℕ) → i < length low → Rises ks (first_of ls i) (count_of ls i)
  pub count : n ≡ length low
  pub few : length low < 16777216
  pub plain : Plain low
  pub proper : Each Proper low
  pub clean : R ≡ replicate (length R) 0
  pub room : length low + conds low ≤ length R
  pub short : length R ≤ 4294967295
  pub names : length low < length S

-- some lines are given
pub record Known (ls ks t R S : List ℕ) (n : ℕ) : Type 0 where
  pub low : List Line
  pub given : Given low ls ks t R S n

-- the lent buffers are zeros, with room for the finished lines: m of them
pub record Lends (low : List Line) (m : ℕ) (l d x : List ℕ) : Type 0 where
  pub rows : length l ≡ line_numbers * m
  pub lines : l ≡ replicate (length l) 0
  pub tokens : d ≡ replicate (length d) 0
  pub text : x ≡ replicate (length x) 0
  pub most : length x ≤ text_most
  pub room : (K : Listing) → structure low ≡ listed K → Within (record { lines = m; tokens = length d; bytes = length x }) K.lines

unfoldable pub lent : List ℕ → List ℕ → List ℕ → Lent
lent l d x = record { lines = length l; tokens = length d; text = length x }

-- the answer and the lent buffers as the definition has them
unfoldable pub result_in : Structured → List ℕ → List ℕ → List ℕ → Result
result_in (Err e₀) l d x = record {
  number = 9;
  lines = 0;
  tokens = 0;
  bytes = 0;
  ifs = 0;
  loops = 0;
  tests = 0;
  line_buffer = l;
  token_buffer = d;
  text_buffer = x;
}
result_in (Ok c) l d x = record {
  number = 0;
  lines = c.lines;
  tokens = c.tokens;
  bytes = c.bytes;
  ifs = c.ifs;
  loops = c.loops;
  tests = c.tests;
  line_buffer = l;
  token_buffer = d;
  text_buffer = x;
}

-- from the lent buffers l, d and x to l', d' and x', and zeros in both tables
pub record Finishes (ls ks t R S : List ℕ) (n : ℕ) (l d x : List ℕ) (r : Structured) (l' d' x' R' S' : List ℕ) : Type 0 where
  pub result : (low : List Line) → Given low ls ks t R S n → (m : ℕ) → Lends low m l d x → result_in r l' d' x' ≡ result_of (lent l d x) (structure low)
  pub rows : R' ≡ replicate (length R) 0
  pub spans : S' ≡ replicate (length S) 0
