use native.Mathlib.Omega.{arith}
use mathlib.Core.Path.{refl, sym, ◌∙◌}
use Rattle.comparisons.specs.Looks.{unseen}
use Rattle.comparisons.proofs.Looking.{within_start, within_next, look_turn, look_end}
use Rattle.comparisons.proofs.looks.look_over.Goals as goal

pub loop-k-init : goal.loop-k-init
unfolding unseen
loop-k-init c = (refl, λ h. within_start _ _ _ c.requires h)

pub look_at-l-requires : goal.look_at-l-requires
look_at-l-requires c = c.loop-k.invariant.1 c.loop-k-test.true

pub loop-k-preserved : goal.loop-k-preserved
loop-k-preserved c = let a = c.args in let i = c.loop-k.invariant in (i.0 ∙ look_turn a.lowered.now a.source.now a.c c.loop-k.k c.loop-k.l _ c.loop-k-test.true c.look_at-l.ensures, within_next a.lowered.now a.source.now a.c c.loop-k.k c.loop-k.l _ c.requires (omega arith) (i.1 c.loop-k-test.true) c.look_at-l.ensures)

pub returns : goal.returns
returns c = let a = c.args in let i = c.loop-k.invariant in sym (i.0 ∙ look_end a.lowered.now a.source.now a.c c.loop-k.k c.loop-k.l (omega arith))
