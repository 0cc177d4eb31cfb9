-- A dead statement has no live uses; those of a live one stand in the list from its start to the next one's, where the run visits them.
use Rattle.reads.proofs.Visits.{visit_dead, visit_live}
use Rattle.reads.proofs.visit_stmt.Goals as goal

pub returns-then-is_dead : goal.returns-then-is_dead
returns-then-is_dead g c = λ h s. visit_dead _ _ _ _ _ _ c.is_dead.ensures _ c.if-is_dead.true

pub returns : goal.returns
returns g c = λ h s. visit_live _ _ _ _ _ _ c.is_dead.ensures _ _ _ _ _ _ c.requires.runs c.requires.base_bound.1 c.if-is_dead.false c.get-a.ensures c.get.ensures (c.visit_run.ensures h s)
