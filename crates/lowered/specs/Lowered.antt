-- The lowered lines of a file in scratch, or the first of 1 to 8 that refuses it and zeros.
use Rattle.std.specs.Prelude.{◌≡◌, Bool, cond, ◌&&◌, List, ℕ, eqb, length, replicate}
use Rattle.definition.specs.Edition.{edition1}
use Rattle.definition.specs.Read.{read}
use Rattle.definition.specs.Offsets.{offsets}
use Rattle.definition.specs.Tokens.{Line, text_of}
use Rattle.definition.specs.Blocks.{lower}
use Rattle.definition.specs.Listing.{refused8, line_words, token_words, tokens_of, padded}
use Rattle.tables.specs.Tables.{Tables, cleared, long}
use Rattle.tables.specs.Filled.{judged}
use Rattle.lent.specs.declared.answer.Lowered.{Lowered}
use Rattle.lent.specs.Lengths.{lent_of, low_fits}

-- what is answered, and the three buffers
pub record Low : Type 0 where
  pub number : ℕ
  pub count : ℕ
  pub lines : List ℕ
  pub tokens : List ℕ
  pub text : List ℕ

abbrev pub low_of : Lowered → List ℕ → List ℕ → List ℕ → Low
low_of r l k x = record { number = r.number; count = r.lines; lines = l; tokens = k; text = x }

-- the lines of a file that passes 2 to 7
unfoldable pub lines_of : List ℕ → List Line
lines_of f = lower (read edition1 f) (offsets (read edition1 f))

-- n, or 8 where nothing refused the file so far and its lines are too many
unfoldable pub up_to8 : List ℕ → ℕ → ℕ
up_to8 f n = cond (eqb n 0) (cond (refused8 edition1.lowered (lines_of f)) 8 0) n

-- the first of 1 to 8, or 0; `ready` says that everything lent has its length
unfoldable pub first_of : Bool → List ℕ → ℕ
first_of ready f = up_to8 f (cond ready (judged f) 1)

-- the lines where n is 0, with zeros behind them, else zeros; L, T and B are lent
unfoldable pub low_in : ℕ → ℕ → ℕ → List ℕ → ℕ → Low
low_in L T B f n =
    cond (eqb n 0)
    (record {
      number = 0;
      count = length (lines_of f);
      lines = padded L (line_words 0 (lines_of f));
      tokens = padded T (token_words 0 (tokens_of (lines_of f)));
      text = padded B (text_of (tokens_of (lines_of f)));
    })
    (record { number = n; count = 0; lines = replicate L 0; tokens = replicate T 0; text = replicate B 0 })

-- from the buffers l, k and x and the tables to those at exit
pub record LoweredIn (ready : Bool) (f : List ℕ) (T T' : Tables) (l k x : List ℕ) (r : Lowered) (l' k' x' : List ℕ) : Type 0 where
  pub low : low_of r l' k' x'
      ≡ low_in (length l) (length k) (length x) f
      (first_of (ready && (low_fits edition1 (lent_of (length l) (length k) (length x)) && long T)) f)
  pub tables : T' ≡ cleared T
