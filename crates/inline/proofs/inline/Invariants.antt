-- The table has what the blocks before b place, and `first` is where b begins; at the end, from zeros on, it has what all blocks place.
use Prim.Native.Nat.{◌-◌, ◌≤◌}
use mathlib.Core.Path.{◌≡◌}
use lib.ListN.{length}
use Rattle.definition.specs.Lists.{gather, range}
use Rattle.definition.specs.Owners.{first_stmt}
use Rattle.definition.specs.Contents.{size}
use Rattle.definition.specs.Edition.{Edition, blocks}
use Rattle.inline.specs.Placing.{Adds, placed_in}
use Rattle.inline.proofs.inline.Given as goal

abbrev pub invariant-loop-b : goal.invariant-loop-b
invariant-loop-b l = (Adds l.of.f.now (length l.of.numbers.now) (λ (E : Edition). gather (placed_in E l.of.f.now) (range 0 (l.b - 0))) l.initial.places l.places) × (l.first ≡ first_stmt l.of.f.now l.b) × (l.n ≡ size l.of.f.now blocks) × (l.b ≤ l.n) × (length l.places ≡ length l.initial.places)
