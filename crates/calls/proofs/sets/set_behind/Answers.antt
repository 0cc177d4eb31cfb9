-- An Assign raises the count to its register's last place, if that is more; a live call makes it 0; all else leaves it.
use Rattle.calls.proofs.Counting.{set_assign, set_other, set_dead, set_cleared}
use Rattle.calls.proofs.sets.set_behind.Goals as goal
use Rattle.calls.proofs.sets.set_behind.Goals.{then-k-ne-CALL-via-then-k-ne-CALL, then-k-ne-CALL-via-else-k-ne-CALL+then-is_dead}

pub returns-then-k-eq-ASSIGN : goal.returns-then-k-eq-ASSIGN
returns-then-k-eq-ASSIGN c = λ E set so. set_assign _ _ _ _ c.stmt_kind-k.ensures E set so _ _ _ c.if-k-eq-ASSIGN.true c.stmt_field.ensures c.last_place.ensures c.max.ensures

pub returns-then-k-ne-CALL : goal.returns-then-k-ne-CALL
returns-then-k-ne-CALL c = λ E set so. elim c.then-k-ne-CALL.branch [
  | then-k-ne-CALL-via-then-k-ne-CALL w ↦ set_other _ _ _ _ c.stmt_kind-k.ensures E set so c.if-k-eq-ASSIGN.false w.if-k-ne-CALL.true
  | then-k-ne-CALL-via-else-k-ne-CALL+then-is_dead w ↦ set_dead _ _ _ _ c.stmt_kind-k.ensures E set so _ w.if-k-ne-CALL.false w.is_dead.ensures w.if-is_dead.true
]

pub returns : goal.returns
returns c = λ E set so. set_cleared _ _ _ _ c.stmt_kind-k.ensures E set so _ c.if-k-ne-CALL.false c.is_dead.ensures c.if-is_dead.false
