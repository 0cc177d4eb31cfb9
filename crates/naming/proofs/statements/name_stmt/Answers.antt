-- A dead statement names nothing; a live one its fields, its value items, then its reads: three runs that make up its walk.
use native.Mathlib.Omega.{arith}
use mathlib.Core.Path.{ap, ◌∙◌}
use Rattle.definition.specs.Edition.{statements}
use Rattle.records.proofs.Items.{size_small}
use Rattle.defined.proofs.Values.{exprs_small, items_small}
use Rattle.naming.specs.Walk.{walked, item_spot}
use Rattle.std.proofs.Common.{rules}
use Rattle.naming.proofs.Walking.{stmt_dead, stmt_live}
use Rattle.names.specs.Spots.{use_spot}
use Rattle.definition.specs.Lists.{at}
use Rattle.names.proofs.Reading.{uses_run}
use Rattle.naming.proofs.statements.name_stmt.Goals as goal

pub returns-then-is_dead : goal.returns-then-is_dead
returns-then-is_dead c = stmt_dead _ _ _ _ _ c.is_dead.ensures c.if-is_dead.true

pub overflow_add-a : goal.overflow_add-a
overflow_add-a c = omega (arith, exprs_small c.args.of.now.f.now c.args.i c.args.first c.expr_items.result c.args.of.now.bytes (c.args.of.now.laid.own, c.requires.0, c.requires.1) c.expr_items.ensures)

pub overflow_add-b : goal.overflow_add-b
overflow_add-b c = omega (arith, items_small c.args.of.now.f.now c.args.i c.args.first c.expr_items.result c.args.of.now.bytes (c.args.of.now.laid.own, c.requires.0, c.requires.1) c.expr_items.ensures c.value_items.result c.value_items.ensures)

pub overflow_cast-i : goal.overflow_cast-i
overflow_cast-i c = omega (arith, size_small c.args.of.now.f.now c.args.of.now.bytes statements, c.requires.0)

pub overflow_cast-i-2 : goal.overflow_cast-i-2
overflow_cast-i-2 c = omega (arith, size_small c.args.of.now.f.now c.args.of.now.bytes statements, c.requires.0)

pub overflow_add-i : goal.overflow_add-i
overflow_add-i c = omega (arith, size_small c.args.of.now.f.now c.args.of.now.bytes statements, c.requires.0)

pub returns : goal.returns
returns c = stmt_live _ _ _ _ _ c.is_dead.ensures c.if-is_dead.false _ _ _ _ _ _ c.requires.1 c.expr_items.ensures c.value_items.ensures c.name_fields-next.ensures (c.name_run-next.ensures (item_spot c.args.of.now.f.now) (λ k m p. search rules)) (c.name_run.ensures (λ k. use_spot c.args.of.now.f.now (at c.args.of.now.order.now k)) (λ k m p. search rules) ∙ ap (walked _ _) (uses_run c.args.of.now.f.now c.args.of.now.order.now c.args.of.now.starts.now _ _ c.args.of.now.laid.flat c.args.i _ _ c.requires.0 c.get-x.ensures c.get-y.ensures))
