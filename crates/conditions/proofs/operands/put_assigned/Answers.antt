-- The statement's place holds the key of the value that it assigns, so the value printed by its place is that one.
use Rattle.conditions.proofs.Pairing.{place_low, assigned_named, assigned_put}
use native.Mathlib.Omega.{arith}
use Rattle.conditions.proofs.operands.put_assigned.Goals as goal

pub overflow_add-place : goal.overflow_add-place
overflow_add-place c = omega (arith, place_low _ _ _ c.args.src.now.told.ground c.args.src.now.of.bytes _ c.requires)

pub value-requires : goal.value-requires
value-requires c = assigned_named _ _ _ c.args.src.now.told.ground c.args.src.now.of.bytes _ c.requires _ c.stmt_field-reg.ensures

pub returns : goal.returns
returns c = λ E e. assigned_put _ _ _ c.args.src.now.told.ground c.args.src.now.of.bytes _ c.requires E _ _ _ c.size_of-pos.ensures (c.value.ensures E e)
