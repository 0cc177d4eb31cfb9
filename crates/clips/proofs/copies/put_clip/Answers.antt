use Rattle.clips.proofs.Emits.{texts_start, texts_turn, texts_end}
use Rattle.clips.specs.Clip.{clip}
use Prim.Native.Nat.{◌-◌}
use mathlib.Core.Path.{◌≡◌, refl, ◌∙◌}
use native.Mathlib.Omega.{arith}
use Rattle.clips.proofs.copies.put_clip.Goals as goal

pub loop-k-init : goal.loop-k-init
loop-k-init c = (texts_start _ _, omega arith, refl, refl)

pub loop-k-preserved : goal.loop-k-preserved
loop-k-preserved c = let inv = c.loop-k.invariant in (texts_turn _ _ _ _ _ (omega arith) c.put_clip_at-out.ensures inv.0, omega arith, c.put_clip_at-out.auto.tokens ∙ inv.2, c.put_clip_at-out.auto.text ∙ inv.3)

pub returns : goal.returns
unfolding clip
returns c = let z : c.loop-k.k - 1 ≡ c.args.c.count - 1 = omega arith in texts_end _ _ _ _ _ z c.loop-k.invariant.0
