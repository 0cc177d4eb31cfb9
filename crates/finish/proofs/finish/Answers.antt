use native.Mathlib.Omega.{arith}
use mathlib.Core.Path.{◌≡◌, refl, ◌∙◌}
use Rattle.finish.proofs.Written.{lines_start, lines_turn, lines_end, heads_at}
use Rattle.finish.proofs.finish.Goals as goal

pub loop-i-init : goal.loop-i-init
loop-i-init c = (lines_start _ _ _ _ _, refl, refl, refl)

pub write_row-out-requires : goal.write_row-out-requires
write_row-out-requires c = let a = c.args in heads_at a.from.now a.lowered.now a.source.now a.rows.now a.n _ _ c.requires c.loop-i-test.true c.get-w.ensures

pub loop-i-preserved : goal.loop-i-preserved
loop-i-preserved c = let a = c.args in let inv = c.loop-i.invariant in (lines_turn a.from.now a.lowered.now a.source.now a.rows.now _ _ _ _ _ c.get-w.ensures inv.0 c.write_row-out.ensures, c.write_row-out.auto.lines ∙ inv.1, c.write_row-out.auto.tokens ∙ inv.2, c.write_row-out.auto.text ∙ inv.3)

pub returns : goal.returns
returns c = let z : c.loop-i.i ≡ c.args.n = omega arith in lines_end _ _ _ _ _ _ _ _ z c.loop-i.invariant.0
