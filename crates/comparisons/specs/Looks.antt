-- What is looked at in a condition to negate it, token by token: the parentheses so far, how many comparisons stand outside of them, and where the
-- last of these is.
use Rattle.std.specs.Prelude.{◌≡◌, Bool, true, cond, ◌&&◌, List, [], ◌∷◌, ℕ, suc, ◌+◌, ◌≤◌, ◌<◌, eqb, length}
use Rattle.definition.specs.Texts.{begins, contains}
use Rattle.definition.specs.Lists.{count}
use Rattle.definition.specs.Tokens.{Token}
use Rattle.definition.specs.Negate.{compares}
use Rattle.sheet.specs.Ranges.{between}
use Rattle.clips.specs.declared.clip.Clip.{Clip}
use Rattle.clips.specs.Clip.{clip_from, clip_to}
use Rattle.comparisons.specs.declared.looks.Look.{Look}

-- how far into s the first w stands; behind all of s where it stands nowhere
unfoldable pub place_of : List ℕ → List ℕ → ℕ
place_of w [] = 0
place_of w (b ∷ s) = cond (begins w (b ∷ s)) 0 (suc (place_of w s))

-- w, which is not empty, stands in the range
pub record Stands (w t : List ℕ) (from to : ℕ) : Type 0 where
  pub some : 0 < length w
  pub inside : contains w (between t from to) ≡ true

-- the bytes b behind a token, counted on from n: only a Punct's count. Opening parentheses, and closing ones
unfoldable pub counted : ℕ → ℕ → Token → ℕ
counted b n u = cond (eqb u.kind 6) (n + count (eqb b) u.text) n

abbrev pub opened : ℕ → Token → ℕ
opened o u = counted 40 o u

abbrev pub shut : ℕ → Token → ℕ
shut c u = counted 41 c u

-- is it a Punct with a comparison, at depth 0 behind it
unfoldable pub marked : ℕ → ℕ → Token → Bool
marked o c u = eqb u.kind 6 && eqb (opened o u) (shut c u) && compares u.text

-- nothing looked at, then the token at place k, and tokens from place k on
unfoldable pub unseen : Look
unseen = record { opens = 0; closes = 0; hits = 0; place = 0 }

unfoldable pub stepped : Look → ℕ → Token → Look
stepped l k u =
    let m = marked l.opens l.closes u in
    record { opens = opened l.opens u; closes = shut l.closes u; hits = cond m (l.hits + 1) l.hits; place = cond m k l.place }

unfoldable pub looked : Look → ℕ → List Token → Look
looked l k [] = l
looked l k (u ∷ us) = looked (stepped l k u) (k + 1) us

-- the parentheses before place k are bytes of the condition, so they can be counted
pub record Within (ks : List ℕ) (c : Clip) (k : ℕ) (l : Look) : Type 0 where
  pub opens : l.opens + c.from ≤ clip_from ks c k
  pub closes : l.closes + c.from ≤ clip_from ks c k
  pub hits : l.hits < k
  pub rises : clip_from ks c k ≤ clip_to ks c k
