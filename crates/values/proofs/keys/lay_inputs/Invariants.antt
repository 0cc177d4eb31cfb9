-- The inputs of the phis from i on are left to lay; they begin behind those of the phis before, whose count is carried along.
use mathlib.Core.Path.{◌≡◌}
use Prim.Native.Nat.{◌+◌, ◌-◌}
use lib.ListN.{length}
use Rattle.definition.specs.Lists.{gather, range}
use Rattle.definition.specs.Edition.{phis}
use Rattle.definition.specs.Contents.{size}
use Rattle.definition.specs.Owners.{first_input}
use Rattle.places.specs.Keys.{input_keys}
use Rattle.places.specs.Laid.{laid}
use Rattle.values.proofs.keys.lay_inputs.Given as goal

abbrev pub invariant-loop-i : goal.invariant-loop-i
invariant-loop-i l = (laid l.initial.keys l.from (gather (input_keys l.f) (range 0 (size l.f phis))) ≡ laid l.keys (l.from + l.first) (gather (input_keys l.f) (range l.i (l.n - l.i)))) × (l.first ≡ first_input l.f l.i) × (l.n ≡ size l.f phis) × (length l.keys ≡ length l.initial.keys)
