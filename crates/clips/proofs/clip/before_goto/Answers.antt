use Rattle.clips.proofs.Clips.{goto_start, goto_hit, goto_turn, goto_none}
use mathlib.Core.Path.{◌≡◌, ◌∙◌}
use native.Mathlib.Omega.{arith}
use Rattle.clips.proofs.clip.before_goto.Goals as goal

pub loop-k-init : goal.loop-k-init
loop-k-init c = goto_start _ _ _ _

pub returns-then-is_goto : goal.returns-then-is_goto
returns-then-is_goto c = let a = c.args in goto_hit a.tokens.now a.text.now a.a a.n c.loop-k.k c.loop-k.invariant _ c.loop-k-test.true c.is_goto.ensures c.if-is_goto.true

pub loop-k-preserved : goal.loop-k-preserved
loop-k-preserved c = let a = c.args in goto_turn a.tokens.now a.text.now a.a a.n c.loop-k.k c.loop-k.invariant _ c.loop-k-test.true c.is_goto.ensures c.if-is_goto.false

pub returns : goal.returns
returns c = let a = c.args in let z : a.n ≡ c.loop-k.k = omega arith in z ∙ goto_none a.tokens.now a.text.now a.a a.n c.loop-k.k c.loop-k.invariant (omega arith)
