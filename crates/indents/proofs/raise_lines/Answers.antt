-- One line more is set deeper with each turn; where none is left, all are.
use mathlib.Core.Path.{sym, ◌∙◌}
use lib.ListN.{length-set}
use native.Mathlib.Omega.{arith}
use Rattle.indents.proofs.Laws.{raised_turn, raised_end, raised_is}
use Rattle.indents.proofs.raise_lines.Goals as goal

pub loop-i-preserved : goal.loop-i-preserved
loop-i-preserved c =
    let inv = c.loop-i.invariant in
    (inv.0 ∙ raised_turn _ _ _ _ (omega arith) c.deeper.ensures, simp length-set inv.1)

pub returns : goal.returns
returns c =
    let inv = c.loop-i.invariant in
    sym (raised_end c.args.by c.loop-i.run c.loop-i.i (omega arith)) ∙ sym inv.0 ∙ raised_is _ _
