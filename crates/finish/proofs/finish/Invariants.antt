-- The lines of the first i rows are written, one more at each turn, each row headed as the caller promises; at the end i is n.
use mathlib.Core.Path.{◌≡◌}
use lib.ListN.{length}
use Rattle.room.specs.Room.{sheet_of, write_all, seen_sheet}
use Rattle.finish.specs.Finishing.{lines_in}
use Rattle.finish.proofs.finish.Given as goal

abbrev pub invariant-loop-i : goal.invariant-loop-i
invariant-loop-i l = (seen_sheet (sheet_of l.lines l.tokens l.text l.out) ≡ seen_sheet (write_all (sheet_of l.initial.lines l.initial.tokens l.initial.text l.initial.out) (lines_in l.from l.lowered l.source l.rows l.i))) × (length l.lines ≡ length l.initial.lines) × (length l.tokens ≡ length l.initial.tokens) × (length l.text ≡ length l.initial.text)
