-- The line's first k tokens are written, one more at each turn; at the end k is n.
use Rattle.sheet.specs.Buffers.{tokens_in}
use Rattle.room.specs.Room.{room_of, emit_all, seen}
use lib.ListN.{length}
use mathlib.Core.Path.{◌≡◌}
use Rattle.clips.proofs.copies.put_line.Given as goal

abbrev pub invariant-loop-k : goal.invariant-loop-k
invariant-loop-k l = (seen (room_of l.tokens l.text l.out) ≡ seen (emit_all (room_of l.initial.tokens l.initial.text l.initial.out) (tokens_in l.lowered l.source l.a l.k))) × (length l.tokens ≡ length l.initial.tokens) × (length l.text ≡ length l.initial.text)
