-- No expression below i is outside; the first that is refuses the file, and when i is at the end none is.
use Rattle.values.specs.Tables.{table}
use Rattle.definition.specs.Offsets.{Known, look, outside}
use Rattle.definition.specs.Read.{trees}
use Rattle.definition.specs.Contents.{text}
use Rattle.definition.specs.Lists.{any}
use Rattle.definition.specs.Edition.{Edition}
use lib.ListN.{length}
use mathlib.Core.List.{List}
use mathlib.Core.Bool.{false}
use mathlib.Core.Path.{◌≡◌}
use Prim.Native.Nat.{◌≤◌}
use Rattle.sums.proofs.outside.refused7.Given as goal

abbrev pub invariant-loop-i : goal.invariant-loop-i
invariant-loop-i l = (l.i ≤ l.n) × ((E : Edition) (k : List Known) → text E ≡ l.of.t → l.tab ≡ table l.of.f.now (length l.of.numbers.now) (look k) → any (outside k) (trees E l.of.f.now l.i) ≡ false)
