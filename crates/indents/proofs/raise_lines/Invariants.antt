-- Setting the lines from i on deeper, one by one, gives what setting all of them gives; the length stays.
use Prim.Native.Nat.{◌-◌}
use mathlib.Core.Path.{◌≡◌}
use lib.ListN.{length}
use Rattle.indents.proofs.Laws.{raised_from}
use Rattle.indents.proofs.raise_lines.Given as goal

abbrev pub invariant-loop-i : goal.invariant-loop-i
invariant-loop-i l = (raised_from l.by l.initial.run 0 (length l.initial.run) ≡ raised_from l.by l.run l.i (length l.run - l.i)) × (length l.run ≡ length l.initial.run)
