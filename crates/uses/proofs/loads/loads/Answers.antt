use Rattle.uses.proofs.Loading.{loaded, load_turn, load_end}
use Rattle.uses.proofs.Filling.{padded_none}
use Rattle.uses.specs.Loads.{loads_below}
use lib.ListN.{length-set}
use mathlib.Core.Path.{refl, ◌∙◌}
use native.Mathlib.Omega.{arith}
use Rattle.uses.proofs.loads.loads.Goals as goal

pub loop-i-init : goal.loop-i-init
unfolding loaded loads_below
loop-i-init c = (c.requires.0 ∙ padded_none _, c.size_of-n.ensures, omega arith, refl)

pub bounds-loads-i : goal.bounds-loads-i
bounds-loads-i c = omega (arith, c.requires.1)

pub loop-i-preserved : goal.loop-i-preserved
loop-i-preserved c = let inv = c.loop-i.invariant in (load_turn _ _ _ _ _ _ inv.1 c.loop-i-test.true c.requires.1 inv.0 c.load_of-x.ensures, inv.1, omega arith, simp length-set inv.3)

pub returns : goal.returns
returns c = λ E. let inv = c.loop-i.invariant in load_end _ _ _ _ _ inv.1 inv.2 c.loop-i-test.false inv.0 E
