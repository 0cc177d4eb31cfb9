use Rattle.rounds.proofs.Walking.{before_start}
use Rattle.rounds.proofs.Running.{blocks_parts, both_ran, mine_none, nothing_ran, all_ran}
use Rattle.sums.proofs.Naming.{under}
use Rattle.rounds.specs.Defs.{defs_below}
use Rattle.definition.specs.Lists.{gather, range}
use native.Mathlib.Omega.{arith}
use mathlib.Core.Path.{refl, ◌∙◌}
use Rattle.rounds.proofs.round_of.Goals as goal

pub loop-b-init : goal.loop-b-init
unfolding defs_below range gather
loop-b-init c = (omega arith, refl, before_start _ _, λ E s. nothing_ran _ _ _ _ _ (mine_none _))

pub block_round-w-requires : goal.block_round-w-requires
block_round-w-requires c = record { tab_len = c.loop-b.invariant.1 ∙ c.requires.tab_len; b_bound = (under c.loop-b-test.true c.size_of-n.ensures, c.loop-b.invariant.2) }

pub loop-b-preserved : goal.loop-b-preserved
loop-b-preserved c = (omega arith, c.block_round-w.auto.tab ∙ c.loop-b.invariant.1, c.block_round-w.ensures.0, λ E s. both_ran _ _ _ _ _ _ _ _ _ _ _ _ (blocks_parts E _ _) refl (c.loop-b.invariant.3 E s) (c.block_round-w.ensures.1 E s))

pub returns : goal.returns
returns c = λ E s. all_ran _ _ _ (defs_below E _) _ _ _ _ _ _ c.loop-b.invariant.0 c.loop-b-test.false c.size_of-n.ensures (c.loop-b.invariant.3 E s)
