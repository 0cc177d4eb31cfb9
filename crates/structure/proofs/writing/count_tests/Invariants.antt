-- The tests counted and those of the lines from i on are all of them; each turn counts one line, at most 1, and at the end none is left.
use Rattle.structure.proofs.Counting.{tests_from}
use Rattle.sorts.specs.Sorted.{lines_in}
use Rattle.definition.specs.Listing.{tests}
use Prim.Native.Nat.{◌+◌, ◌≤◌}
use mathlib.Core.Path.{◌≡◌}
use Rattle.structure.proofs.writing.count_tests.Given as goal

abbrev pub invariant-loop-i : goal.invariant-loop-i
invariant-loop-i l = (tests (lines_in l.lines l.tokens l.text l.n) ≡ l.c + tests_from l.lines l.tokens l.text l.i l.n) × (l.c ≤ l.i)
