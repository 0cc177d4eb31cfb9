-- A statement passed over ticks nothing; any other ticks the nodes that `order` has from its start up to the next one's, which are its reads.
use Rattle.std.proofs.Common.{rules}
use Rattle.reads.specs.Counts.{placed}
use Rattle.names.proofs.Reading.{uses_run}
use Rattle.names.proofs.Ticking.{tick_run, tick_none, tick_some}
use Rattle.names.specs.Spots.{ticked}
use Rattle.records.proofs.Items.{size_small}
use Rattle.reads.proofs.Visits.{exprs_low}
use Rattle.definition.specs.Edition.{statements}
use mathlib.Core.Path.{ap, ◌∙◌}
use native.Mathlib.Omega.{arith}
use Rattle.names.proofs.entry.tick_stmt.Goals as goal

pub returns-then-passed_over : goal.returns-then-passed_over
returns-then-passed_over c = tick_none _ c.args.f.now _ c.args.i _ c.passed_over.ensures c.if-passed_over.true

pub overflow_add-i : goal.overflow_add-i
overflow_add-i c = omega (arith, size_small c.args.f.now c.type_inv.f statements, c.requires.from_value.1)

pub visit_run-requires-clause-base_bound : goal.visit_run-requires-clause-base_bound
visit_run-requires-clause-base_bound c = exprs_low c.args.f.now c.type_inv.f _ c.requires.from_value.0

pub returns : goal.returns
unfolding placed
returns c =
    let given = c.args in
    let pre = c.requires in
    tick_some _ given.f.now _ given.i _ c.passed_over.ensures _ c.if-passed_over.false (c.visit_run.ensures (placed 1) (λ t n u p. search rules) ∙ tick_run _ given.f.now given.order.now _ _ _ _ pre.from_value.0 ∙ ap (ticked _ _) (uses_run given.f.now given.order.now given.starts.now _ _ pre.ordered given.i _ _ pre.from_value.1 c.get-a.ensures c.get-b.ensures))
