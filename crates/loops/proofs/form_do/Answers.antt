-- The head raised and turned, the body raised, the back edge turned: these changes in order are the loop formed.
use Rattle.passes.proofs.Forms.{form_do_lem}
use lib.ListN.{length-set}
use native.Mathlib.Omega.{arith}
use Rattle.loops.proofs.form_do.Goals as goal

pub raise-requires : goal.raise-requires
raise-requires c = (omega arith, omega (arith, length-set c.args.rows.now c.args.k c.turn.result))

pub returns : goal.returns
returns c = form_do_lem _ _ _ _ _ _ _ _ _ c.get-w.ensures c.get-b.ensures c.up.ensures c.turn.ensures c.raise.ensures c.turn-2.ensures
