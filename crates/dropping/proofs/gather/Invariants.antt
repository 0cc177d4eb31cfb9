-- The rows from i on are left to gather behind the c kept so far; c is at most i, so there is a place for each row that is kept.
use Rattle.passes.specs.Dropping.{kept_row, gather_from}
use lib.ListN.{length}
use mathlib.Core.Path.{◌≡◌}
use Prim.Native.Nat.{◌-◌, ◌≤◌}
use Rattle.dropping.proofs.gather.Given as goal

abbrev pub invariant-loop-i : goal.invariant-loop-i
invariant-loop-i l = (l.c ≤ l.i) × (length l.rows ≡ length l.initial.rows) × (gather_from (kept_row l.spans l.n) l.initial.rows 0 l.m 0 ≡ gather_from (kept_row l.spans l.n) l.rows l.i (l.m - l.i) l.c)
