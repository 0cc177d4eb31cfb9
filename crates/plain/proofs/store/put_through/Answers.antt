-- The pointer's cast, a bracket, the address and a bracket: the four pieces in order are the place behind that address.
use Rattle.definition.specs.Render.{through}
use Rattle.room.proofs.Laws.{next, more, one}
use Rattle.plain.specs.Pieces.{through_of}
use Rattle.plain.proofs.store.put_through.Goals as goal

pub returns : goal.returns
unfolding through_of through
returns c = λ E s. next _ _ _ _ c.put_pointer-out.ensures (next _ _ _ _ c.put-out.ensures (more _ _ _ _ _ (c.put_expr-out.ensures E s) (one _ _ _ c.put.ensures)))
