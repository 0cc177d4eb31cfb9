-- Laying the phi's inputs from the j-th on gives at every turn the table that laying all of them gives; at the end none is left.
use mathlib.Core.Path.{◌≡◌}
use mathlib.Core.List.{map}
use Prim.Native.Nat.{◌+◌, ◌-◌}
use lib.ListN.{length}
use Rattle.definition.specs.Lists.{range}
use Rattle.definition.specs.Owners.{phi_inputs}
use Rattle.places.specs.Keys.{input_key, input_keys}
use Rattle.places.specs.Laid.{laid}
use Rattle.values.proofs.keys.lay_phi.Given as goal

abbrev pub invariant-loop-j : goal.invariant-loop-j
invariant-loop-j l = (laid l.initial.keys l.from (input_keys l.f l.i) ≡ laid l.keys (l.from + l.j) (map (input_key l.f l.i) (range (l.first + l.j) (l.n - l.j)))) × (l.n ≡ phi_inputs l.f l.i) × (length l.keys ≡ length l.initial.keys)
