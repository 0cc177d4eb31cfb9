use native.Mathlib.Omega.{arith}
use mathlib.Core.Path.{◌≡◌, refl, sym, ◌∙◌}
use Rattle.comparisons.proofs.Comparing.{place_hit, place_turn, place_end}
use Rattle.comparisons.proofs.signs.place_between.Goals as goal

pub loop-i-init : goal.loop-i-init
loop-i-init c = (refl, omega arith)

pub returns-then-begins_between : goal.returns-then-begins_between
returns-then-begins_between c = let a = c.args in place_hit a.source.now c.loop-i.i a.to _ c.min-e.ensures a.w.now a.from c.loop-i.invariant.0 c.loop-i-test.true (sym c.begins_between.ensures ∙ c.if-begins_between.true)

pub loop-i-preserved : goal.loop-i-preserved
loop-i-preserved c = let a = c.args in (place_turn a.source.now c.loop-i.i a.to _ c.min-e.ensures a.w.now a.from c.loop-i.invariant.0 c.loop-i-test.true (sym c.begins_between.ensures ∙ c.if-begins_between.false), omega arith)

pub returns : goal.returns
returns c = let a = c.args in
    let z : c.max.result ≡ c.loop-i.i = omega (arith, c.max.ensures, c.loop-i.invariant.1) in
    z ∙ place_end a.source.now c.loop-i.i a.to _ c.min-e.ensures a.w.now a.from c.loop-i.invariant.0 (omega arith)
