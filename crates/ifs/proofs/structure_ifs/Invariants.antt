-- The spans are noted first. The sweep from row k on is left; a region adds a row only where the slice has room, so the rows are bounded, and k comes nearer the bound.
use Rattle.passes.specs.Sweeps.{more, if_tried, sweep_rows}
use lib.ListN.{length}
use mathlib.Core.Path.{◌≡◌}
use Prim.Native.Nat.{◌+◌, ◌-◌, ◌≤◌}
use Rattle.ifs.proofs.structure_ifs.Given as goal

abbrev pub invariant-loop-k : goal.invariant-loop-k
invariant-loop-k l = (l.rest ≤ length l.initial.rows + l.n) × (l.rest ≤ 18446744073709551615) × (l.regions ≤ l.k) × (length l.rows ≡ length l.initial.rows) × (length l.spans ≡ length l.initial.spans)
    × (sweep_rows if_tried more (length l.initial.rows + l.n) l.initial.rows l.initial.spans 0 l.n 0 ≡ sweep_rows if_tried more (length l.initial.rows + l.n - l.k) l.rows l.spans l.k l.rest l.regions)

abbrev pub decreases-loop-k : goal.decreases-loop-k
decreases-loop-k l = length l.initial.rows + l.n - l.k
