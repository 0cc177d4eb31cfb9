-- The quotient by the mark is odd just where the definition finds the mark.
use Rattle.records.proofs.Laws.{marked_is}
use Rattle.records.proofs.owners.is_marked.Goals as goal

pub returns : goal.returns
returns c = marked_is _ _ _ _ c.stmt_word.ensures
