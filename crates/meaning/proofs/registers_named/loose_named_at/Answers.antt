-- What a Call returns stands before the values among the items: where it fails all fails, else the items decide.
use mathlib.Core.Path.{refl, ap}
use Rattle.std.proofs.Common.{arith}
use Rattle.std.proofs.lemmas.Bool.Decides.{nat_tests}
use Rattle.definition.specs.Lists.{all}
use Rattle.each.specs.Rules.{named}
use Rattle.defined.proofs.Tested.{loose_parts}
use Rattle.meaning.proofs.registers_named.loose_named_at.Goals as goal

pub returns-then-defined_named : goal.returns-then-defined_named
returns-then-defined_named c =
    let e = loose_parts c.args.s.f.now named c.args.s.i _ _ c.first_value.ensures.place c.value_items.ensures in
    let d = ap (all named) c.returned_by.ensures in
    grind (arith, nat_tests)

pub returns-else-defined_named : goal.returns-else-defined_named
returns-else-defined_named c =
    let e = loose_parts c.args.s.f.now named c.args.s.i _ _ refl refl in
    let d = ap (all named) c.returned_by.ensures in
    grind (arith, nat_tests)
