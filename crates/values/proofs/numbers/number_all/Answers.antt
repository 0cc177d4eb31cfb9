use native.Mathlib.Omega.{arith}
use mathlib.Core.Path.{refl, ◌∙◌}
use Rattle.definition.specs.Lists.{at}
use Rattle.values.specs.Tables.{number_of}
use Rattle.values.proofs.Chaining.{chain_start, filled_on, numbers_done}
use Rattle.values.proofs.numbers.number_all.Goals as goal

pub loop-i-init : goal.loop-i-init
loop-i-init c = ((λ j h. absurd (omega arith)), chain_start _ _ _ c.requires.heads_value, refl, refl, refl)

pub number-requires : goal.number-requires
number-requires c = record { chained = c.loop-i.invariant.1; i_in_bounds = (omega arith, omega arith, omega arith, omega arith) }

pub loop-i-preserved : goal.loop-i-preserved
loop-i-preserved c = let inv = c.loop-i.invariant in
    let ks = c.args.keys.now in
    (filled_on (λ j. number_of ks (at ks j)) c.loop-i.numbers _ _ _ inv.0 (omega arith) c.number.ensures.number c.put.ensures, c.number.ensures.chained, c.put.auto.l ∙ inv.2, c.number.auto.heads ∙ inv.3, c.number.auto.next ∙ inv.4)

pub returns : goal.returns
returns c = numbers_done c.args.keys.now _ _ (c.loop-i.invariant.2 ∙ c.requires.numbers_len.0) c.loop-i-test.false c.loop-i.invariant.0
