-- No argument above the first i is in the register, so the count among these is that of all; one that is ends it, or 0, to which i falls.
use mathlib.Core.Path.{◌≡◌}
use mathlib.Core.List.{[], ◌∷◌, map}
use Rattle.definition.specs.Lower.{count_set}
use Rattle.definition.specs.Lists.{range}
use Rattle.definition.specs.Contents.{arg_at}
use Rattle.definition.specs.Meaning.{arg_regs}
use Rattle.calls.proofs.sets.last_place.Given as goal

abbrev pub invariant-loop-i : goal.invariant-loop-i
invariant-loop-i l = count_set (l.v ∷ []) (arg_regs l.f) ≡ count_set (l.v ∷ []) (map (arg_at l.f) (range 0 l.i))

abbrev pub decreases-loop-i : goal.decreases-loop-i
decreases-loop-i l = l.i
