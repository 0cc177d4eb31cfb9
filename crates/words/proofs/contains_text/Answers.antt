-- Each place is asked whether w begins there; at the end only the empty text does.
use Rattle.words.proofs.Laws.{begins_past, contains_hit, contains_turn, contains_end}
use mathlib.Core.Path.{refl, sym, ◌∙◌}
use native.Mathlib.Omega.{arith}
use Rattle.words.proofs.contains_text.Goals as goal

pub loop-i-init : goal.loop-i-init
loop-i-init c = refl

pub returns-then-begins_at : goal.returns-then-begins_at
returns-then-begins_at c = contains_hit c.args.w.now c.args.s.now c.loop-i.i (omega arith) (sym c.begins_at.ensures ∙ c.if-begins_at.true) ∙ sym c.loop-i.invariant

pub loop-i-preserved : goal.loop-i-preserved
loop-i-preserved c = c.loop-i.invariant ∙ contains_turn c.args.w.now c.args.s.now c.loop-i.i (omega arith) (sym c.begins_at.ensures ∙ c.if-begins_at.false)

pub returns : goal.returns
returns c = let end = c.loop-i-test.false in
    c.is_empty.ensures ∙ begins_past c.args.w.now c.args.s.now c.loop-i.i end ∙ contains_end c.args.w.now c.args.s.now c.loop-i.i end ∙ sym c.loop-i.invariant
