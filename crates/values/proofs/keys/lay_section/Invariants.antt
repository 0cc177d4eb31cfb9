-- Laying the keys of the records from i on gives at every turn the table that laying all of them gives; at the end none is left.
use mathlib.Core.Path.{◌≡◌}
use mathlib.Core.List.{map}
use Prim.Native.Nat.{◌+◌, ◌-◌}
use lib.ListN.{length}
use Rattle.definition.specs.Lists.{range}
use Rattle.definition.specs.Contents.{size}
use Rattle.places.specs.Laid.{laid, key_at}
use Rattle.values.proofs.keys.lay_section.Given as goal

abbrev pub invariant-loop-i : goal.invariant-loop-i
invariant-loop-i l = (laid l.initial.keys l.from (map (key_at l.f l.s) (range 0 (size l.f l.s))) ≡ laid l.keys (l.from + l.i) (map (key_at l.f l.s) (range (0 + l.i) (l.n - l.i)))) × (l.n ≡ size l.f l.s) × (length l.keys ≡ length l.initial.keys)
