-- An indent is a small number, and the back edge lies before n.
use Rattle.passes.proofs.Goals.{back_below}
use native.Mathlib.Omega.{arith}
use Rattle.loops.proofs.do_goal.Goals as goal

pub overflow_add-j : goal.overflow_add-j
overflow_add-j c = omega (arith, back_below _ _ _ _ _ _ (omega arith) c.in_ok-j.ensures)

pub overflow_add-j-else-is_outside : goal.overflow_add-j-else-is_outside
overflow_add-j-else-is_outside c = omega (arith, back_below _ _ _ _ _ _ (omega arith) c.in_ok-j.ensures)
