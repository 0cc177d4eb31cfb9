-- A piece that goes on has a token before it.
use mathlib.Core.Path.{sym, ◌∙◌}
use native.Mathlib.Omega.{arith}
use Rattle.room.proofs.Placing.{goes_told}
use Rattle.room.proofs.place.slot_at.Goals as goal

pub overflow_sub-result : goal.overflow_sub-result
overflow_sub-result c = omega (arith, goes_told _ _ _ (sym c.goes_on.ensures ∙ c.if-goes_on.true))
