-- Of no statements none leaves; else the last has the number first + count - 1, and its record says whether it leaves.
use Rattle.calls.proofs.Recorded.{last_none, last_is}
use mathlib.Core.Path.{ap, ◌∙◌}
use mathlib.Core.Bool.{not}
use lib.Dec.{eqb}
use Rattle.calls.proofs.ends.last_leaves.Goals as goal

pub returns-else-count-ne0 : goal.returns-else-count-ne0
returns-else-count-ne0 c = λ E. ap (λ n. not (eqb n 0)) c.if-count-ne0.false ∙ last_none E _ _ _ _ _ c.if-count-ne0.false

pub returns-then-count-ne0 : goal.returns-then-count-ne0
returns-then-count-ne0 c = λ E. last_is E _ _ _ _ _ _ c.if-count-ne0.true c.leaves.ensures
