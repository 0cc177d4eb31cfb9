-- What is assigned, then what a call returns, each at the statement's place: two runs, one behind the other, are the walk over both.
use Rattle.naming.proofs.Small.{stmts_small}
use Rattle.naming.proofs.Walking.{fields_two}
use Prim.Native.Nat.{◌+◌}
use mathlib.Core.Path.{refl, ap}
use Rattle.places.specs.declared.Places.{Places}
use native.Mathlib.Omega.{arith}
use Rattle.naming.proofs.statements.name_fields.Goals as goal

pub overflow_add-p : goal.overflow_add-p
overflow_add-p c = omega (arith, stmts_small c.args.of.now.f.now c.args.of.now.bytes, ap (λ (p : Places). p.stmts) c.args.of.now.laid.are)

pub returns : goal.returns
returns c =
    let given = c.args in
    let assigned_by = c.assigned_by-d in
    let returned_by = c.returned_by-d in
    fields_two _ _ given.i _ (c.args.of.now.at.stmts + given.i) c.args.of.now.at.stmts assigned_by.result returned_by.result _ _ refl (ap (λ (p : Places). p.stmts) c.args.of.now.laid.are) assigned_by.ensures returned_by.ensures c.name_defined-next.ensures c.name_defined.ensures
