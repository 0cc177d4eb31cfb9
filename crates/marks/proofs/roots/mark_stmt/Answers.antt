-- A statement passed over marks nothing; any other reads the nodes that `order` has from its start up to the next one's.
use mathlib.Core.Path.{ap}
use Rattle.places.specs.declared.Places.{Places}
use Rattle.reads.proofs.Visits.{exprs_low}
use Rattle.std.proofs.Common.{rules}
use Rattle.marks.specs.Reading.{classed}
use Rattle.marks.proofs.Rooting.{read_none, read_some}
use Rattle.marks.proofs.roots.mark_stmt.Goals as goal

pub returns-then-passed_over : goal.returns-then-passed_over
returns-then-passed_over c = λ E k s e. read_none _ E _ k _ _ _ _ (c.passed_over.ensures E k s e) c.if-passed_over.true

pub visit_run-requires-clause-base_bound : goal.visit_run-requires-clause-base_bound
visit_run-requires-clause-base_bound c = exprs_low _ c.args.of.now.bytes _ (ap (λ (p : Places). p.exprs) c.args.of.now.ground.where_all)

pub returns : goal.returns
unfolding classed
returns c = λ E k s e. read_some _ E _ k _ _ _ _ (c.passed_over.ensures E k s e) _ _ _ _ _ _ c.requires.ordered c.args.of.now.ground.where_all c.requires.i_bound c.if-passed_over.false c.get-a.ensures c.get-b.ensures (c.visit_run.ensures (classed c.args.roots.now) (λ t n u p. search rules))
