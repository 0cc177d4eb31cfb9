-- Only a Use is a value: it has what the table says at its place, and any other tag has 0.
use Rattle.sums.proofs.Nodes.{used_yes, used_no}
use Rattle.sums.proofs.reading.used_at.Goals as goal

pub returns-then-expr_word-eq-USE : goal.returns-then-expr_word-eq-USE
returns-then-expr_word-eq-USE c = used_yes _ _ _ _ c.expr_word.ensures _ c.if-expr_word-eq-USE.true c.value_at.ensures

pub returns : goal.returns
returns c = used_no _ _ _ _ c.expr_word.ensures c.if-expr_word-eq-USE.false
