-- The spans are noted first. The sweep from row k on is left; a loop adds no row, so n stays, and there are at most as many regions as rows tried.
use Rattle.passes.specs.Sweeps.{do_tried, sweep_rows, keeps}
use lib.ListN.{length}
use mathlib.Core.Path.{◌≡◌}
use Prim.Native.Nat.{◌+◌, ◌-◌, ◌≤◌}
use Rattle.loops.proofs.structure_do_while.Given as goal

abbrev pub invariant-loop-k : goal.invariant-loop-k
invariant-loop-k l = (l.regions ≤ l.k) × (length l.rows ≡ length l.initial.rows) × (length l.spans ≡ length l.initial.spans)
    × (sweep_rows do_tried keeps (length l.initial.rows + l.n) l.initial.rows l.initial.spans 0 l.n 0 ≡ sweep_rows do_tried keeps (length l.initial.rows + l.n - l.k) l.rows l.spans l.k l.n l.regions)
