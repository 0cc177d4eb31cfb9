-- By the tag: a Load holds one, an Un holds what its child holds, a Bin what its left or else its right child holds, others none.
use Rattle.uses.proofs.Loading.{is_load_lem, below_un, no_child, left_load, right_load}
use Rattle.uses.proofs.loads.load_of.Goals as goal

pub returns-then-t-eq-LOAD : goal.returns-then-t-eq-LOAD
returns-then-t-eq-LOAD c = is_load_lem _ _ _ _ c.expr_word-t.ensures c.if-t-eq-LOAD.true

pub returns-then-t-eq-UN : goal.returns-then-t-eq-UN
returns-then-t-eq-UN c = below_un _ _ _ _ c.expr_word-t.ensures _ _ c.if-t-eq-UN.true c.expr_word.ensures c.get.ensures

pub returns-then-t-ne-BIN : goal.returns-then-t-ne-BIN
returns-then-t-ne-BIN c = no_child _ _ _ _ c.expr_word-t.ensures c.if-t-eq-LOAD.false c.if-t-eq-UN.false c.if-t-ne-BIN.true

pub returns-then-get-eq1 : goal.returns-then-get-eq1
returns-then-get-eq1 c = left_load _ _ _ _ c.expr_word-t.ensures _ _ c.if-t-ne-BIN.false c.expr_word-2.ensures c.get-2.ensures c.if-get-eq1.true

pub returns : goal.returns
returns c = right_load _ _ _ _ c.expr_word-t.ensures _ _ _ _ c.if-t-ne-BIN.false c.expr_word-2.ensures c.get-2.ensures c.if-get-eq1.false c.expr_word-3.ensures c.get-3.ensures
