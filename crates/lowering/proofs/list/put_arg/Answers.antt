-- The comma where others stand before it, then the expression.
use mathlib.Core.Path.{ap}
use Rattle.room.specs.Room.{seen}
use Rattle.room.proofs.Laws.{more}
use Rattle.lowering.specs.Commas.{arg_of}
use Rattle.lowering.proofs.list.put_arg.Goals as goal

pub returns : goal.returns
unfolding arg_of
returns c = λ E s. more _ _ _ _ _ (ap seen c.put_if-out.ensures) (c.put_expr.ensures E s)
