-- None from i on is marked, so the last marked of all is the last of those before i.
use Prim.Native.Nat.{◌-◌}
use mathlib.Core.Path.{◌≡◌}
use mathlib.Core.Option.{none}
use Rattle.definition.specs.Lists.{range}
use Rattle.flags.specs.Marked.{last_marked}
use Rattle.flags.proofs.setter.last_marked.Given as goal

abbrev pub invariant-loop-i : goal.invariant-loop-i
invariant-loop-i l = last_marked l.f none (range l.first l.count) ≡ last_marked l.f none (range l.first (l.i - l.first))
