-- Lowered lines as they stand in the room's buffers: tokens by their places, lines by their first and last.
use Rattle.std.specs.Prelude.{cond, List, map, ℕ, ◌+◌, ◌*◌, ◌-◌, ◌/◌, ◌%◌, eqb}
use Rattle.definition.specs.Words.{part}
use Rattle.definition.specs.Lists.{range, at}
use Rattle.definition.specs.Read.{when}
use Rattle.definition.specs.Tokens.{Token, tok, Line}
use Rattle.definition.specs.Listing.{line_numbers}

-- each of what ends where `ends` says begins where the one before it ends
unfoldable pub start_of : (ℕ → ℕ) → ℕ → ℕ
start_of ends i = cond (eqb i 0) 0 (ends (i - 1))

-- the bytes of the token at place j
abbrev pub end_at : List ℕ → ℕ → ℕ
end_at ks j = at ks j / 8

abbrev pub start_at : List ℕ → ℕ → ℕ
start_at ks j = start_of (end_at ks) j

unfoldable pub kind_at : List ℕ → ℕ → ℕ
kind_at ks j = at ks j % 8

unfoldable pub text_at : List ℕ → List ℕ → ℕ → List ℕ
text_at ks t j = part t (start_at ks j) (end_at ks j - start_at ks j)

unfoldable pub token_at : List ℕ → List ℕ → ℕ → Token
token_at ks t j = tok (kind_at ks j) (text_at ks t j)

-- n tokens from place a on
unfoldable pub tokens_in : List ℕ → List ℕ → ℕ → ℕ → List Token
tokens_in ks t a n = map (token_at ks t) (range a n)

-- the tokens of line i: from the end of the line before it to its own
abbrev pub last_of : List ℕ → ℕ → ℕ
last_of ls i = at ls (line_numbers * i + 3)

abbrev pub first_of : List ℕ → ℕ → ℕ
first_of ls i = start_of (last_of ls) i

unfoldable pub line_in : List ℕ → List ℕ → List ℕ → ℕ → Line
line_in ls ks t i = record {
  addr = when (at ls (line_numbers * i)) (at ls (line_numbers * i + 1));
  indent = at ls (line_numbers * i + 2);
  toks = tokens_in ks t (first_of ls i) (last_of ls i - first_of ls i);
}
