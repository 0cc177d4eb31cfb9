-- The condition of a jump as it stands in the buffers: the tokens behind the jump's first, of which the first is read from one byte on and the last up
-- to another.
use Rattle.std.specs.Prelude.{◌≡◌, Bool, not, cond, List, map, ℕ, ◌+◌, ◌-◌, ◌≤◌, ◌<◌, eqb}
use Rattle.definition.specs.Texts.{txt, is_empty, trim_start, cut_end}
use Rattle.definition.specs.Lists.{range, only}
use Rattle.definition.specs.Tokens.{Token, tok, text_of}
use Rattle.sheet.specs.Buffers.{kind_at, start_at, end_at}
use Rattle.sheet.specs.Ranges.{between}
use Rattle.clips.specs.declared.clip.Clip.{Clip}

-- where the bytes of its token at place k begin, and where they end
unfoldable pub clip_from : List ℕ → Clip → ℕ → ℕ
clip_from ks c k = cond (eqb k 1) c.from (start_at ks (c.first + k))

unfoldable pub clip_to : List ℕ → Clip → ℕ → ℕ
clip_to ks c k = cond (eqb (k + 1) c.count) c.to (end_at ks (c.first + k))

unfoldable pub clip_at : List ℕ → List ℕ → Clip → ℕ → Token
clip_at ks t c k = tok (kind_at ks (c.first + k)) (between t (clip_from ks c k) (clip_to ks c k))

-- is there any text to a token
unfoldable pub has_text : Token → Bool
has_text u = not (is_empty u.text)

-- n tokens, without empty ones
unfoldable pub texts : (ℕ → Token) → ℕ → List Token
texts f n = only has_text (map f (range 1 n))

-- its tokens
unfoldable pub clip : List ℕ → List ℕ → Clip → List Token
clip ks t c = texts (clip_at ks t c) (c.count - 1)

-- the ends of the n tokens from place a on rise
pub record Rises (ks : List ℕ) (a n : ℕ) : Type 0 where
  pub each : (k : ℕ) → k < n → start_at ks (a + k) ≤ end_at ks (a + k)

-- so do those of the condition's tokens, and their texts are one range
pub record Orderly (ks t : List ℕ) (c : Clip) : Type 0 where
  pub each : (k : ℕ) → 1 ≤ k → k < c.count → clip_from ks c k ≤ clip_to ks c k
  pub whole : text_of (clip ks t c) ≡ between t c.from c.to

-- a range without its leading ` (`
pub record Opened (t : List ℕ) (from to r : ℕ) : Type 0 where
  pub text : between t r to ≡ trim_start (txt " (") (between t from to)
  pub after : from ≤ r
  pub within : from ≤ to → r ≤ to

-- a range without a trailing `) `
pub record Closed (t : List ℕ) (from to r : ℕ) : Type 0 where
  pub text : between t from r ≡ cut_end (txt ") ") (between t from to)
  pub before : r ≤ to
  pub within : from ≤ to → from ≤ r
