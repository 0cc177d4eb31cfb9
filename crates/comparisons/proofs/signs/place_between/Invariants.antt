-- The first place is i and how far w is from there on: 0 where the range from i begins with w, else one further; at the end 0 again.
use mathlib.Core.Path.{◌≡◌}
use Prim.Native.Nat.{max, ◌+◌, ◌≤◌}
use Rattle.sheet.specs.Ranges.{between}
use Rattle.comparisons.specs.Looks.{place_of}
use Rattle.comparisons.proofs.signs.place_between.Given as goal

abbrev pub invariant-loop-i : goal.invariant-loop-i
invariant-loop-i l = (l.from + place_of l.w (between l.source l.from l.to) ≡ l.i + place_of l.w (between l.source l.i l.to)) × (l.i ≤ max l.from l.e)
