-- What the functions of the negation write: one token flipped where it has text, the others as they are.
use mathlib.Core.Path.{◌≡◌}
use mathlib.Core.Bool.{Bool, true, false}
use mathlib.Core.List.{List, [], ◌∷◌}
use Prim.Native.Nat.{ℕ}
use Rattle.definition.specs.Texts.{is_empty}
use Rattle.definition.specs.Lists.{only}
use Rattle.definition.specs.Tokens.{Token, tok}
use Rattle.definition.specs.Negate.{flips, flip_in}
use Rattle.room.specs.Room.{Room, emit_all, seen}
use Rattle.room.proofs.Laws.{done}
use Rattle.sheet.specs.Ranges.{between}
use Rattle.clips.specs.declared.clip.Clip.{Clip}
use Rattle.clips.specs.Clip.{clip_from, clip_to, clip_at, has_text}
use Rattle.negate.specs.Flipping.{flip_of, flipped}
use Rattle.negate.proofs.Marks.{flip_empty, flipped_there, flipped_other}

-- ---- the flipped token
module _ (ks t : List ℕ) (c : Clip) (k f e : ℕ) (b : Bool) (from : f ≡ clip_from ks c k) (to : e ≡ clip_to ks c k) (test : b ≡ is_empty (between t f e)) where
  pub flip_nothing : (r : Room) → b ≡ true → seen r ≡ seen (emit_all r (only has_text (flip_of (clip_at ks t c k) ∷ [])))
  unfolding only has_text flip_of clip_at
  flip_nothing r z = rw (← from, ← to, flip_empty (between t f e), ← test, z) (done r)

  pub flip_some : (r₁ r : Room) → b ≡ false → seen r₁ ≡ seen (emit_all r (tok 6 (flip_in flips (between t f e)) ∷ []))
      → seen r₁ ≡ seen (emit_all r (only has_text (flip_of (clip_at ks t c k) ∷ [])))
  unfolding only has_text flip_of clip_at
  flip_some r₁ r z h = rw (← from, ← to, flip_empty (between t f e), ← test, z) h

-- ---- the tokens, one of them flipped
module _ (f : ℕ → Token) (p k : ℕ) (r₁ r : Room) where
  pub at_place : k ≡ p → seen r₁ ≡ seen (emit_all r (only has_text (flip_of (f k) ∷ []))) → seen r₁ ≡ seen (emit_all r (only has_text (flipped f p k ∷ [])))
  at_place e h = rw (flipped_there f p k e) h

  pub at_other : (k ≡ p → ⊥) → seen r₁ ≡ seen (emit_all r (only has_text (f k ∷ []))) → seen r₁ ≡ seen (emit_all r (only has_text (flipped f p k ∷ [])))
  at_other n h = rw (flipped_other f p k n) h
