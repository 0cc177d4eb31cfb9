-- The rows from i on are left to note into the table as it stands; with none left it is the table asked for.
use Rattle.outline.specs.Spans.{note_from}
use lib.ListN.{length}
use mathlib.Core.Path.{◌≡◌}
use Prim.Native.Nat.{◌-◌}
use Rattle.outline.proofs.spans.note_rows.Given as goal

abbrev pub invariant-loop-i : goal.invariant-loop-i
invariant-loop-i l = (length l.spans ≡ length l.initial.spans) × (note_from l.rows 0 l.n l.initial.spans ≡ note_from l.rows l.i (l.n - l.i) l.spans)
