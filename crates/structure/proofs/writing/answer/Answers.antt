-- Where the passes refuse, nothing is written and the answer is too deep; else the rows left are headed as promised, and written.
use Rattle.passes.proofs.Turns.{refused}
use Rattle.structure.proofs.Sheeted.{answered_deep, answered_left, heads_left}
use Rattle.structure.proofs.writing.answer.Goals as goal

pub returns-in_err-kept : goal.returns-in_err-kept
returns-in_err-kept c = answered_deep _ _ _ _ _ _ _ _ _ c.in_err-kept.was (refused _ c.from_residual.ensures.0)

pub write-requires : goal.write-requires
write-requires c = heads_left _ _ _ _ c.in_ok-kept.kept c.requires c.in_ok-kept.was

pub returns : goal.returns
returns c = answered_left _ _ _ _ _ _ _ _ _ _ _ _ _ c.in_ok-kept.was c.write.ensures
