-- What a Call returns stands before the values among the items: where its slot is not free all fails, else the items decide.
use mathlib.Core.Path.{refl, ap}
use Rattle.std.proofs.Common.{arith}
use Rattle.std.proofs.lemmas.Bool.Decides.{nat_tests}
use Rattle.definition.specs.Lists.{all}
use Rattle.slots.specs.Slots.{free}
use Rattle.defined.proofs.Tested.{loose_parts}
use Rattle.slots.proofs.loose_free_at.Goals as goal

pub returns-then-defined_free : goal.returns-then-defined_free
returns-then-defined_free c =
    let p = free c.args.table.now in
    let e = loose_parts c.args.s.f.now p c.args.s.i _ _ c.first_value.ensures.place c.value_items.ensures in
    let d = ap (all p) c.returned_by.ensures in
    grind (arith, nat_tests)

pub returns-else-defined_free : goal.returns-else-defined_free
returns-else-defined_free c =
    let p = free c.args.table.now in
    let e = loose_parts c.args.s.f.now p c.args.s.i _ _ refl refl in
    let d = ap (all p) c.returned_by.ensures in
    grind (arith, nat_tests)
