use native.Mathlib.Omega.{arith}
use mathlib.Core.Path.{refl, ◌∙◌}
use Rattle.definition.specs.Edition.{Edition}
use Rattle.inline.specs.Placing.{placed_at}
use Rattle.inline.proofs.Adding.{run_start, run_turn, run_end}
use Rattle.inline.proofs.place_block.Goals as goal

pub loop-i-init : goal.loop-i-init
loop-i-init c = (run_start _ _ (λ (E : Edition). placed_at E _ _) _ _, omega arith, c.requires.0, refl)

pub place-requires : goal.place-requires
place-requires c = (c.loop-i-test.true, c.requires.1)

pub loop-i-preserved : goal.loop-i-preserved
loop-i-preserved c = (run_turn _ _ (λ (E : Edition). placed_at E _ _) _ _ _ _ _ c.loop-i.invariant.1 c.loop-i.invariant.0 c.place.ensures, omega arith, omega arith, c.place.auto.places ∙ c.loop-i.invariant.3)

pub returns : goal.returns
returns c = run_end _ _ (λ (E : Edition). placed_at E _ _) _ _ _ _ _ c.loop-i.invariant.2 c.loop-i-test.false c.loop-i.invariant.0
