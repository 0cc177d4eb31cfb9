-- The items of the statements from i on are left to lay; they begin behind those of the statements before, whose count is carried along.
use mathlib.Core.Path.{◌≡◌}
use Prim.Native.Nat.{◌+◌, ◌-◌}
use lib.ListN.{length}
use Rattle.definition.specs.Lists.{gather, range}
use Rattle.definition.specs.Edition.{statements}
use Rattle.definition.specs.Contents.{size}
use Rattle.definition.specs.Owners.{first_item}
use Rattle.places.specs.Keys.{item_keys}
use Rattle.places.specs.Laid.{laid}
use Rattle.values.proofs.keys.lay_items.Given as goal

abbrev pub invariant-loop-i : goal.invariant-loop-i
invariant-loop-i l = (laid l.initial.keys l.from (gather (item_keys l.f) (range 0 (size l.f statements))) ≡ laid l.keys (l.from + l.first) (gather (item_keys l.f) (range l.i (l.n - l.i)))) × (l.first ≡ first_item l.f l.i) × (l.n ≡ size l.f statements) × (length l.keys ≡ length l.initial.keys)
