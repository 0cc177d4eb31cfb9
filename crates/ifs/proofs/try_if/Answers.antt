-- The goal is behind k and before n, and there is room for a row more.
use Rattle.passes.proofs.Goals.{if_ahead}
use native.Mathlib.Omega.{arith}
use Rattle.ifs.proofs.try_if.Goals as goal

pub form_if-requires : goal.form_if-requires
form_if-requires c = let a = if_ahead _ _ _ _ _ c.requires c.in-Some.ensures in
    (a.0, a.1, omega arith)
