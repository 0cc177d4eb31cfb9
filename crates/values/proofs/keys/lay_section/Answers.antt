use native.Mathlib.Omega.{arith}
use mathlib.Core.Path.{refl, ◌∙◌}
use Rattle.values.proofs.Laying.{lay_start, lay_turn, lay_end}
use Rattle.values.proofs.keys.lay_section.Goals as goal

pub loop-i-init : goal.loop-i-init
loop-i-init c = (lay_start _ _ 0 _ _ _ c.size_of-n.ensures, c.size_of-n.ensures, refl)

pub key_at-requires : goal.key_at-requires
key_at-requires c = record { f_value = c.requires.f_value; i_bound = omega arith }

pub loop-i-preserved : goal.loop-i-preserved
loop-i-preserved c = let inv = c.loop-i.invariant in
    (inv.0 ∙ lay_turn _ _ 0 _ _ _ _ _ _ c.loop-i-test.true (omega arith) c.key_at.ensures c.put.ensures, inv.1, c.put.auto.l ∙ inv.2)

pub returns : goal.returns
returns c = lay_end _ _ 0 _ _ _ _ c.loop-i-test.false c.loop-i.invariant.0
