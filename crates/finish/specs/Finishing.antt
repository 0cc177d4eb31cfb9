-- The finished lines as they are read off the lowered buffers: the line that a row stands for, its lowered line having numbers in ls, tokens in ks
-- and bytes in t.
use Rattle.std.specs.Prelude.{◌≡◌, cond, List, map, ℕ, ◌+◌, ◌*◌, ◌-◌, ◌<◌, eqb, length}
use Rattle.std.proofs.Math.Option.{Option, none}
use Rattle.definition.specs.Lists.{range, at}
use Rattle.definition.specs.Read.{when}
use Rattle.definition.specs.Tokens.{Token, Line}
use Rattle.definition.specs.Negate.{close_tokens, open_tokens, do_tokens, while_tokens}
use Rattle.definition.specs.Listing.{line_numbers}
use Rattle.sheet.specs.Buffers.{tokens_in, first_of, last_of, line_in}
use Rattle.outline.specs.Rows.{IF-OPEN, CLOSE, DO-OPEN, WHILE-CLOSE, kind_of, indent_of, origin_of, line_at}
use Rattle.clips.specs.Clip.{Rises}

-- how many tokens line i has
unfoldable pub count_of : List ℕ → ℕ → ℕ
count_of ls i = last_of ls i - first_of ls i

-- the address of line i; a closing row has none
unfoldable pub address_in : List ℕ → ℕ → Option ℕ
address_in ls i = when (at ls (line_numbers * i)) (at ls (line_numbers * i + 1))

unfoldable pub row_address : List ℕ → ℕ → Option ℕ
row_address ls w = cond (eqb (kind_of w) CLOSE) none (address_in ls (origin_of w))

-- the tokens of a row of kind k, of those of its lowered line: those of a loop's rows and of plain lines, and of all rows
unfoldable pub later_toks : ℕ → List Token → List Token
later_toks k ts = cond (eqb k DO-OPEN) do_tokens (cond (eqb k WHILE-CLOSE) (while_tokens ts) ts)

unfoldable pub kind_toks : ℕ → List Token → List Token
kind_toks k ts = cond (eqb k CLOSE) close_tokens (cond (eqb k IF-OPEN) (open_tokens ts) (later_toks k ts))

unfoldable pub origin_toks : List ℕ → List ℕ → List ℕ → ℕ → List Token
origin_toks ls ks t i = tokens_in ks t (first_of ls i) (count_of ls i)

unfoldable pub row_line : List ℕ → List ℕ → List ℕ → ℕ → Line
row_line ls ks t w = record {
  addr = row_address ls w;
  indent = indent_of w;
  toks = kind_toks (kind_of w) (origin_toks ls ks t (origin_of w));
}

-- the lines of the first n rows
unfoldable pub lines_in : List ℕ → List ℕ → List ℕ → List ℕ → ℕ → List Line
lines_in ls ks t rows n = map (λ i. row_line ls ks t (at rows i)) (range 0 n)

-- a row of kind k that opens an if has tokens, n from place a on, whose ends rise
pub record Headed (ks : List ℕ) (k a n : ℕ) : Type 0 where
  pub rises : k ≡ IF-OPEN → Rises ks a n

unfoldable pub HeadedRow : List ℕ → List ℕ → ℕ → Type 0
HeadedRow ls ks w = Headed ks (kind_of w) (first_of ls (origin_of w)) (count_of ls (origin_of w))

-- every one of the first n rows is so
pub record Heads (ls ks rows : List ℕ) (n : ℕ) : Type 0 where
  pub each : (i : ℕ) → i < n → HeadedRow ls ks (at rows i)

-- the buffers hold these lines
pub record Lows (ls ks t : List ℕ) (low : List Line) : Type 0 where
  pub each : (i : ℕ) → i < length low → line_in ls ks t i ≡ line_at low i
