-- The tokens at places 1 to k - 1 are written, empty ones left out, one place more at each turn; at the end these are all.
use Rattle.clips.specs.Clip.{texts, clip_at}
use Rattle.room.specs.Room.{room_of, emit_all, seen}
use lib.ListN.{length}
use Prim.Native.Nat.{◌-◌, ◌≤◌}
use mathlib.Core.Path.{◌≡◌}
use Rattle.clips.proofs.copies.put_clip.Given as goal

abbrev pub invariant-loop-k : goal.invariant-loop-k
invariant-loop-k l = (seen (room_of l.tokens l.text l.out) ≡ seen (emit_all (room_of l.initial.tokens l.initial.text l.initial.out) (texts (clip_at l.lowered l.source l.c) (l.k - 1)))) × (l.k - 1 ≤ l.c.count - 1) × (length l.tokens ≡ length l.initial.tokens) × (length l.text ≡ length l.initial.text)
