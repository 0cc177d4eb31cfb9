-- The sheet before anything is written, zeros, and with lines written.
use Rattle.std.specs.Prelude.{false, List, ℕ, length, replicate}
use Rattle.definition.specs.Tokens.{Line, text_of}
use Rattle.definition.specs.Listing.{token_count, byte_count, line_words, token_words, tokens_of, padded}
use Rattle.room.specs.declared.out.Out.{Out}
use Rattle.room.specs.Room.{Sheet, sheet_of}

-- nothing written, not full
abbrev pub fresh : Out
fresh = record { lines = 0; tokens = 0; bytes = 0; start = 0; full = false }

-- with L numbers lent for lines, T for tokens and B bytes for the text
unfoldable pub blank : ℕ → ℕ → ℕ → Sheet
blank L T B = sheet_of (replicate L 0) (replicate T 0) (replicate B 0) fresh

-- these lines in it, and zeros behind
unfoldable pub filled : ℕ → ℕ → ℕ → List Line → Sheet
filled L T B ls =
    sheet_of (padded L (line_words 0 ls)) (padded T (token_words 0 (tokens_of ls))) (padded B (text_of (tokens_of ls)))
    (record { lines = length ls; tokens = token_count ls; bytes = byte_count ls; start = token_count ls; full = false })
