-- Places below i have what they keep and those from i on are as they were, so that what is read at i is still the root.
use mathlib.Core.Path.{◌≡◌}
use lib.ListN.{length}
use Rattle.classes.proofs.Turns.{Sparing}
use Rattle.classes.proofs.spare.Given as goal

abbrev pub invariant-loop-i : goal.invariant-loop-i
invariant-loop-i l = Sparing l.keys l.numbers l.initial.roots l.roots l.i × (length l.roots ≡ length l.initial.roots)
