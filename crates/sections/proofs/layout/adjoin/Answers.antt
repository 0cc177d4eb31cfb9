use native.Mathlib.Omega.{arith}
use Prim.Native.Nat.{◌+◌, ◌<◌}
use Rattle.sections.specs.Layout.{bytes_in}
use mathlib.Core.Path.{sym, ◌∙◌}
use Rattle.sections.proofs.Sections.{adjoin_start, adjoin_apart, adjoin_turn, adjoin_stop, adjoin_end}
use Rattle.sections.proofs.layout.adjoin.Goals as goal

pub loop-s-init : goal.loop-s-init
loop-s-init c = adjoin_start c.args.e c.args.f.now _ c.contents-at.ensures

pub returns-then-from-at : goal.returns-then-from-at
returns-then-from-at c = adjoin_apart c.args.e c.args.f.now c.loop-s.s c.loop-s.at c.loop-s-test.true (λ q. c.if-from-at.true (c.from.ensures ∙ c.offset_of.ensures ∙ q)) ∙ sym c.loop-s.invariant

pub returns-in_default : goal.returns-in_default
returns-in_default c =
    let w = c.words_at.ensures in
    let n = c.size_of.ensures in
    let past : c.loop-s.at + bytes_in c.words_at.result c.size_of.result < 18446744073709551616 → ⊥ = c.in_default.ensures in
    adjoin_stop c.args.e c.args.f.now c.loop-s.s c.loop-s.at c.loop-s-test.true (cc) (rw (← w, ← n) (omega arith)) ∙ sym c.loop-s.invariant

pub loop-s-preserved : goal.loop-s-preserved
loop-s-preserved c =
    let end = c.in-Some.ensures in
    let turn = adjoin_turn c.args.e c.args.f.now c.loop-s.s c.loop-s.at c.loop-s-test.true (cc) in
    cc

pub returns : goal.returns
returns c = adjoin_end c.args.e c.args.f.now c.loop-s.s c.loop-s.at c.loop-s-test.false ∙ sym c.loop-s.invariant
