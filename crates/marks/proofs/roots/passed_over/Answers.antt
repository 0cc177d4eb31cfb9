-- A dead statement is passed over whatever it is; a live one exactly if it is a save.
use Rattle.marks.proofs.Saving.{over_dead, over_save}
use Rattle.marks.proofs.roots.passed_over.Goals as goal

pub returns-then-is_dead : goal.returns-then-is_dead
returns-then-is_dead c = λ E k s e. over_dead _ _ _ _ c.is_dead.ensures c.if-is_dead.true

pub returns : goal.returns
returns c = λ E k s e. over_save _ _ _ _ _ c.is_dead.ensures c.if-is_dead.false (c.is_save.ensures E k s e)
