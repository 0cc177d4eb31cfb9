-- The rows before j are passed, so the answer is that of the scan from j on: the label or the end found first gives it, and else there is none.
use Rattle.passes.specs.Regions.{label_from}
use mathlib.Core.Path.{◌≡◌}
use Prim.Native.Nat.{◌-◌}
use Rattle.ifs.proofs.find_label.Given as goal

abbrev pub invariant-loop-j : goal.invariant-loop-j
invariant-loop-j l = label_from l.n l.m l.d l.rows l.i (l.n - l.i) ≡ label_from l.n l.m l.d l.rows l.j (l.n - l.j)
