-- The items of a statement are zeros for its expressions, then keys; laying them from the j-th on gives what laying all gives.
use mathlib.Core.Path.{◌≡◌}
use mathlib.Core.List.{map}
use Prim.Native.Nat.{◌+◌, ◌-◌}
use lib.ListN.{length}
use Rattle.definition.specs.Lists.{range}
use Rattle.definition.specs.Owners.{items}
use Rattle.places.specs.Keys.{item_keys}
use Rattle.places.specs.Laid.{laid, item_at}
use Rattle.values.proofs.keys.lay_stmt.Given as goal

abbrev pub invariant-loop-j : goal.invariant-loop-j
invariant-loop-j l = (laid l.initial.keys l.from (item_keys l.f l.i) ≡ laid l.keys (l.from + l.j) (map (item_at l.f l.i) (range (0 + l.j) (l.n - l.j)))) × (l.n ≡ items l.f l.i) × (length l.keys ≡ length l.initial.keys)
