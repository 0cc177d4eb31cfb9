-- The goal is behind k.
use Rattle.passes.proofs.Goals.{do_ahead}
use native.Mathlib.Omega.{arith}
use Rattle.loops.proofs.try_do.Goals as goal

pub form_do-requires : goal.form_do-requires
form_do-requires c = ((do_ahead _ _ _ _ _ c.requires c.in-Some.ensures).0, omega arith)
