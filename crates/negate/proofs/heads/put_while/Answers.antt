-- Three signs, the condition and `);` compose to the line, and merging the pieces changes nothing that is seen.
use Rattle.room.proofs.Laws.{next, more, done, merged}
use Rattle.definition.specs.Negate.{while_tokens}
use mathlib.Core.Path.{sym, ◌∙◌}
use Rattle.negate.proofs.heads.put_while.Goals as goal

pub returns : goal.returns
unfolding while_tokens
returns c = next _ _ _ _ c.put-out.ensures (next _ _ _ _ c.put-out-2.ensures (next _ _ _ _ c.put-out-3.ensures (more _ _ _ _ _ c.put_condition-out.ensures (next _ _ _ _ c.put.ensures (done _))))) ∙ sym (merged _ _)
