use mathlib.Core.Path.{refl, ◌∙◌}
use Rattle.values.proofs.Laying.{phi_start, lay_turn, lay_end}
use Rattle.values.proofs.keys.lay_phi.Goals as goal

pub loop-j-init : goal.loop-j-init
loop-j-init c = (phi_start _ _ _ _ _ _ c.requires.i_bound.1 c.phi_inputs-n.ensures, c.phi_inputs-n.ensures, refl)

pub input_key-requires : goal.input_key-requires
input_key-requires c = record { f_value = c.requires.f_value; i_bound = c.requires.i_bound.0 }

pub loop-j-preserved : goal.loop-j-preserved
loop-j-preserved c = let inv = c.loop-j.invariant in
    (inv.0 ∙ lay_turn _ _ _ _ _ _ _ _ _ c.loop-j-test.true refl c.input_key.ensures c.put.ensures, inv.1, c.put.auto.l ∙ inv.2)

pub returns : goal.returns
returns c = lay_end _ _ _ _ _ _ _ c.loop-j-test.false c.loop-j.invariant.0
