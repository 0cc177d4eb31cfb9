-- What the loops have written: one token more at each turn, or none where it is empty.
use mathlib.Core.Path.{◌≡◌, ap, ◌∙◌}
use mathlib.Core.Bool.{Bool, true, false}
use mathlib.Core.List.{List, [], ◌∷◌, map}
use Prim.Native.Nat.{ℕ, suc, ◌+◌, ◌-◌, ◌≤◌}
use native.Mathlib.Omega.{arith}
use Rattle.definition.specs.Words.{part}
use Rattle.definition.specs.Texts.{is_empty}
use Rattle.definition.specs.Lists.{range, only}
use Rattle.definition.specs.Tokens.{Token, tok}
use Rattle.definition.proofs.ListLaws.{only_append}
use Rattle.records.proofs.Ranges.{map_snoc}
use Rattle.room.specs.Room.{Room, emit, emit_all, seen}
use Rattle.room.proofs.Laws.{next, more, done, pieces_are}
use Rattle.sheet.specs.Buffers.{kind_at, start_at, end_at, text_at, token_at, tokens_in}
use Rattle.sheet.specs.Ranges.{between, SamePlace}
use Rattle.clips.specs.declared.clip.Clip.{Clip}
use Rattle.clips.specs.Clip.{clip_from, clip_to, clip_at, has_text, texts}
use Rattle.clips.proofs.Clips.{token_same}

-- ---- one token
pub put_range : (r₁ r : Room) (k : ℕ) (t : List ℕ) (f e g : ℕ) → g ≡ e - f → r₁ ≡ emit r (tok k (part t f g)) → r₁ ≡ emit r (tok k (between t f e))
unfolding between
put_range r₁ r k t f e g p h = rw (← p) h

module _ (ks t : List ℕ) where
  pub put_token : (r₁ r : Room) (p q x f e : ℕ) → SamePlace ks p q → x ≡ kind_at ks p → f ≡ start_at ks p → e ≡ end_at ks p
      → r₁ ≡ emit r (tok x (between t f e)) → r₁ ≡ emit r (token_at ks t q)
  unfolding token_at text_at between
  put_token r₁ r p q x f e s u v w h = h ∙ ap (emit r) (rw (u, v, w) (token_same ks p q s t))

  -- ---- a line
  module _ (a : ℕ) where
    pub line_end : (r r₀ : Room) (k n : ℕ) → k ≡ n → seen r ≡ seen (emit_all r₀ (tokens_in ks t a k)) → seen r ≡ seen (emit_all r₀ (tokens_in ks t a n))
    line_end r r₀ k n e h = pieces_are r r₀ (tokens_in ks t a k) (tokens_in ks t a n) h (ap (tokens_in ks t a) e)

    pub line_start : (r : Room) → seen r ≡ seen (emit_all r (tokens_in ks t a 0))
    unfolding tokens_in range
    line_start r = done r

    pub line_turn : (r₁ r r₀ : Room) (k : ℕ) → r₁ ≡ emit r (token_at ks t (a + k)) → seen r ≡ seen (emit_all r₀ (tokens_in ks t a k))
        → seen r₁ ≡ seen (emit_all r₀ (tokens_in ks t a (k + 1)))
    unfolding tokens_in
    line_turn r₁ r r₀ k e h =
        let p : k + 1 ≡ suc k = omega arith in
        rw (p, map_snoc (token_at ks t) a k) (more r₁ r r₀ (map (token_at ks t) (range a k)) (token_at ks t (a + k) ∷ []) h (next r₁ r (token_at ks t (a + k)) [] e (done r₁)))

  -- ---- a condition
  module _ (c : Clip) where
    -- an empty token, and one with text
    pub clip_none : (r : Room) (k f e : ℕ) (b : Bool) → f ≡ clip_from ks c k → e ≡ clip_to ks c k → b ≡ is_empty (between t f e) → b ≡ true
        → seen r ≡ seen (emit_all r (only has_text (clip_at ks t c k ∷ [])))
    unfolding only has_text clip_at
    clip_none r k f e b p q h z = rw (← p, ← q, ← h, z) (done r)

    pub clip_some : (r₁ r : Room) (k f e x : ℕ) (b : Bool) → f ≡ clip_from ks c k → e ≡ clip_to ks c k → b ≡ is_empty (between t f e) → b ≡ false
        → x ≡ kind_at ks (c.first + k) → r₁ ≡ emit r (tok x (between t f e))
        → seen r₁ ≡ seen (emit_all r (only has_text (clip_at ks t c k ∷ [])))
    unfolding only has_text clip_at
    clip_some r₁ r k f e x b p q h z y w = rw (← p, ← q, ← h, z, ← y) (next r₁ r (tok x (between t f e)) [] w (done r₁))

-- tokens at places from 1 on, without empty ones
module _ (f : ℕ → Token) where
  pub texts_start : (r : Room) → seen r ≡ seen (emit_all r (texts f (1 - 1)))
  unfolding texts range only
  texts_start r = done r

  pub texts_turn : (r₁ r r₀ : Room) (k : ℕ) → 1 ≤ k → seen r₁ ≡ seen (emit_all r (only has_text (f k ∷ [])))
      → seen r ≡ seen (emit_all r₀ (texts f (k - 1))) → seen r₁ ≡ seen (emit_all r₀ (texts f (k + 1 - 1)))
  unfolding texts
  texts_turn r₁ r r₀ k g e h =
      let p : k + 1 - 1 ≡ suc (k - 1) = omega arith in
      let q : 1 + (k - 1) ≡ k = omega arith in
      rw (p, map_snoc f 1 (k - 1), q, only_append has_text (map f (range 1 (k - 1))) (f k ∷ []))
      (more r₁ r r₀ (only has_text (map f (range 1 (k - 1)))) (only has_text (f k ∷ [])) h e)

  pub texts_end : (r r₀ : Room) (k n : ℕ) → k - 1 ≡ n → seen r ≡ seen (emit_all r₀ (texts f (k - 1))) → seen r ≡ seen (emit_all r₀ (texts f n))
  texts_end r r₀ k n e h = rw (← e) h
