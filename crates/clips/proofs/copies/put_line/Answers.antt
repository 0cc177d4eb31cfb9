use Rattle.clips.proofs.Emits.{line_start, line_turn, line_end}
use mathlib.Core.Path.{◌≡◌, refl, ◌∙◌}
use native.Mathlib.Omega.{arith}
use Rattle.clips.proofs.copies.put_line.Goals as goal

pub loop-k-init : goal.loop-k-init
loop-k-init c = (line_start _ _ _ _, refl, refl)

pub loop-k-preserved : goal.loop-k-preserved
loop-k-preserved c = let inv = c.loop-k.invariant in (line_turn _ _ _ _ _ _ _ c.put_at-out.ensures inv.0, c.put_at-out.auto.tokens ∙ inv.1, c.put_at-out.auto.text ∙ inv.2)

pub returns : goal.returns
returns c = let z : c.loop-k.k ≡ c.args.n = omega arith in line_end _ _ _ _ _ _ _ z c.loop-k.invariant.0
