-- The tokens at places 1 to k - 1 are written, that at p flipped and empty ones left out, one place more at each turn; at the end all are.
use mathlib.Core.Path.{◌≡◌}
use Prim.Native.Nat.{◌-◌, ◌≤◌}
use lib.ListN.{length}
use Rattle.room.specs.Room.{room_of, emit_all, seen}
use Rattle.negate.specs.Flipping.{flipped}
use Rattle.clips.specs.Clip.{clip_at, texts}
use Rattle.negate.proofs.negation.put_flipped.Given as goal

abbrev pub invariant-loop-k : goal.invariant-loop-k
invariant-loop-k l = (seen (room_of l.tokens l.text l.out) ≡ seen (emit_all (room_of l.initial.tokens l.initial.text l.initial.out) (texts (flipped (clip_at l.lowered l.source l.c) l.p) (l.k - 1)))) × (l.k - 1 ≤ l.c.count - 1) × (length l.tokens ≡ length l.initial.tokens) × (length l.text ≡ length l.initial.text)
