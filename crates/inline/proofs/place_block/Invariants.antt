-- The statements from `first` on and before i have placed their values in order, one more at each turn; at the block's end all have.
use Prim.Native.Nat.{◌-◌, ◌≤◌}
use mathlib.Core.Path.{◌≡◌}
use lib.ListN.{length}
use Rattle.definition.specs.Lists.{gather, range}
use Rattle.definition.specs.Edition.{Edition}
use Rattle.inline.specs.Placing.{Adds, placed_at}
use Rattle.inline.proofs.place_block.Given as goal

abbrev pub invariant-loop-i : goal.invariant-loop-i
invariant-loop-i l = (Adds l.of.f.now (length l.of.numbers.now) (λ (E : Edition). gather (placed_at E l.of.f.now l.end) (range l.first (l.i - l.first))) l.initial.places l.places) × (l.first ≤ l.i) × (l.i ≤ l.end) × (length l.places ≡ length l.initial.places)
