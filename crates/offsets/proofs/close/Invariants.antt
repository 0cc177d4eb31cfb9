-- The table follows the definition's rounds; one that changes something leaves a 0 less, and after one that does not the closure is there.
use Rattle.offsets.proofs.Closed.{Closes}
use Rattle.rounds.specs.Ran.{zeros}
use Rattle.rounds.specs.Defs.{mine, defs_below}
use Rattle.values.specs.Tables.{table}
use Rattle.definition.specs.Offsets.{Known, look}
use Rattle.definition.specs.Contents.{size, text}
use Rattle.definition.specs.Edition.{Edition, blocks}
use lib.ListN.{length}
use Prim.Native.Nat.{◌+◌}
use mathlib.Core.List.{List}
use mathlib.Core.Bool.{cond}
use mathlib.Core.Path.{◌≡◌}
use Rattle.offsets.proofs.close.Given as goal

abbrev pub invariant-loop-changed : goal.invariant-loop-changed
invariant-loop-changed l = (length l.tab ≡ length l.initial.tab) × ((E : Edition) (k : List Known) → text E ≡ l.of.t → l.initial.tab ≡ table l.of.f.now (length l.of.numbers.now) (look k) → Closes l.of.f.now (length l.of.numbers.now) (mine l.own (defs_below E l.of.f.now (size l.of.f.now blocks))) k l.tab l.changed)

abbrev pub decreases-loop-changed : goal.decreases-loop-changed
decreases-loop-changed l = zeros l.tab + cond l.changed 1 0
