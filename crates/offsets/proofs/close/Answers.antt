use Rattle.sums.proofs.Naming.{some_edition}
use Rattle.offsets.proofs.Closed.{close_start, close_turn, close_end, close_less}
use mathlib.Core.Path.{refl, ◌∙◌}
use Rattle.offsets.proofs.close.Goals as goal

pub loop-changed-init : goal.loop-changed-init
loop-changed-init c = (refl, λ E k s e. close_start _ _ _ k _ e)

pub round_of-changed-requires : goal.round_of-changed-requires
round_of-changed-requires c = record { tab_len = c.loop-changed.invariant.0 ∙ c.requires.tab_len }

pub loop-changed-smaller : goal.loop-changed-smaller
loop-changed-smaller c = let m = some_edition c.args.of.now.t in close_less _ _ _ _ _ _ _ c.loop-changed-test.true (c.round_of-changed.ensures m.0 m.1)

pub loop-changed-preserved : goal.loop-changed-preserved
loop-changed-preserved c = (c.round_of-changed.auto.tab ∙ c.loop-changed.invariant.0, λ E k s e. close_turn _ _ _ k _ _ _ _ (c.loop-changed.invariant.1 E k s e) (c.round_of-changed.ensures E s))

pub returns : goal.returns
returns c = λ E k s e. close_end _ _ _ k _ _ c.loop-changed-test.false (c.loop-changed.invariant.1 E k s e)
