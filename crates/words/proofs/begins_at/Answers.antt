-- Each byte of w is beside one of the rest; the first that differs decides, and behind the last w has begun.
use Rattle.words.proofs.Laws.{begins_short, begins_turn, begins_differ, begins_end, begins_past, begins_start}
use mathlib.Core.Path.{sym, ◌∙◌}
use lib.ListN.{drop, length-drop}
use native.Mathlib.Omega.{arith}
use Rattle.words.proofs.begins_at.Goals as goal

pub returns-then-s-i : goal.returns-then-s-i
returns-then-s-i c = begins_past c.args.w.now c.args.s.now c.args.i (omega arith)

pub returns-then-s-i-2 : goal.returns-then-s-i-2
returns-then-s-i-2 c = begins_short c.args.w.now (drop c.args.i c.args.s.now) (omega (arith, length-drop c.args.i c.args.s.now))

pub loop-k-init : goal.loop-k-init
loop-k-init c = (begins_start c.args.w.now c.args.s.now c.args.i, omega arith)

pub returns-then-w-k : goal.returns-then-w-k
returns-then-w-k c = let inv = c.loop-k.invariant in begins_differ c.args.w.now c.args.s.now c.args.i c.loop-k.k (omega arith) (omega arith) (λ e. omega arith) ∙ sym inv.0

pub loop-k-preserved : goal.loop-k-preserved
loop-k-preserved c = let inv = c.loop-k.invariant in (inv.0 ∙ begins_turn c.args.w.now c.args.s.now c.args.i c.loop-k.k (omega arith) (omega arith) (omega arith), omega arith)

pub returns : goal.returns
returns c = let inv = c.loop-k.invariant in begins_end c.args.w.now _ c.loop-k.k (omega arith) ∙ sym inv.0
