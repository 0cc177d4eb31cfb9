-- By the tag: a Use has what is known of its value, a Bin has its sum's offset, and any other has 0.
use Rattle.sums.proofs.Nodes.{address_use, address_bin, address_no}
use Rattle.sums.proofs.address.address_at.Goals as goal

pub returns-then-g-eq-USE : goal.returns-then-g-eq-USE
returns-then-g-eq-USE c = address_use _ _ _ _ c.expr_word-g.ensures _ _ c.if-g-eq-USE.true c.value_at.ensures

pub returns-then-g-eq-BIN : goal.returns-then-g-eq-BIN
returns-then-g-eq-BIN c = address_bin _ _ _ _ c.expr_word-g.ensures _ _ c.if-g-eq-BIN.true c.sum_at.ensures

pub returns : goal.returns
returns c = address_no _ _ _ _ c.expr_word-g.ensures _ c.if-g-eq-USE.false c.if-g-eq-BIN.false
