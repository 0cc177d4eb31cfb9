-- Each contract of this crate determines what is seen of the room, or the tokens that a condition is, so no second result says otherwise.
use mathlib.Core.Path.{◌≡◌}
use mathlib.Core.Option.{Option}
use mathlib.Core.List.{List}
use Prim.Native.Nat.{ℕ}
use Rattle.definition.specs.Tokens.{Token, tok}
use Rattle.definition.specs.Negate.{cond_of}
use Rattle.definition.proofs.Unique.{equation}
use Rattle.room.specs.Room.{Room, emit, emit_all, seen}
use Rattle.sheet.specs.Buffers.{tokens_in}
use Rattle.sheet.specs.Ranges.{between}
use Rattle.clips.specs.declared.clip.Clip.{Clip}
use Rattle.clips.specs.Clip.{clip_from, clip_to, clip}

-- put_line, put_clip_at, put_clip, put_condition: they differ in the pieces alone
pub pieces : (x : Room) (ps : List Token) (r s : Option Room) → r ≡ seen (emit_all x ps) → s ≡ seen (emit_all x ps) → r ≡ s
pieces x ps = equation (seen (emit_all x ps))

pub put_between : (x : Room) (k : ℕ) (t : List ℕ) (f e : ℕ) (r s : Room) → r ≡ emit x (tok k (between t f e)) → s ≡ emit x (tok k (between t f e)) → r ≡ s
put_between x k t f e = equation (emit x (tok k (between t f e)))

pub condition : (ks t : List ℕ) (a n : ℕ) (r s : Clip) → clip ks t r ≡ cond_of (tokens_in ks t a n) → clip ks t s ≡ cond_of (tokens_in ks t a n) → clip ks t r ≡ clip ks t s
condition ks t a n r s = equation (cond_of (tokens_in ks t a n)) (clip ks t r) (clip ks t s)

pub clip_from_lem : (ks : List ℕ) (c : Clip) (k r s : ℕ) → r ≡ clip_from ks c k → s ≡ clip_from ks c k → r ≡ s
clip_from_lem ks c k = equation (clip_from ks c k)

pub clip_to_lem : (ks : List ℕ) (c : Clip) (k r s : ℕ) → r ≡ clip_to ks c k → s ≡ clip_to ks c k → r ≡ s
clip_to_lem ks c k = equation (clip_to ks c k)
