-- Behind the last statement every value written in place is open, so what rendering writes is the expression as lowering has it.
use Rattle.room.proofs.Laws.{pieces_are}
use Rattle.lowering.proofs.Gen.{rendered_is}
use Rattle.lowering.proofs.list.put_expr.Goals as goal

pub returns : goal.returns
returns c = λ E s. pieces_are _ _ _ _ (c.expr.ensures E s) (rendered_is E _ c.args.src.now.told.ground.counts _ _ c.size_of-pos.ensures)
