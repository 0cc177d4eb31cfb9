use Rattle.rounds.proofs.Walking.{within}
use Rattle.rounds.proofs.Running.{stmts_parts, both_ran, mine_none, nothing_ran, all_ran}
use Rattle.rounds.specs.Defs.{stmt_defs}
use Rattle.records.proofs.Items.{size_small}
use Rattle.definition.specs.Lists.{gather, range}
use native.Mathlib.Omega.{arith}
use mathlib.Core.Path.{refl, ◌∙◌}
use Rattle.rounds.proofs.stmts_round.Goals as goal

pub loop-i-init : goal.loop-i-init
unfolding stmt_defs range gather
loop-i-init c = (omega arith, refl, λ E s. nothing_ran _ _ _ _ _ (mine_none _))

pub overflow_add-from : goal.overflow_add-from
overflow_add-from c = omega (arith, size_small c.args.of.now.f.now c.args.of.now.bytes 4, c.requires.n_bound)

pub stmt_step-c-requires : goal.stmt_step-c-requires
stmt_step-c-requires c = record { tab_len = c.loop-i.invariant.1 ∙ c.requires.tab_len; i_bound = within _ _ _ _ c.loop-i-test.true c.requires.n_bound }

pub loop-i-preserved : goal.loop-i-preserved
loop-i-preserved c = (omega arith, c.stmt_step-c.auto.tab ∙ c.loop-i.invariant.1, λ E s. both_ran _ _ _ _ _ _ _ _ _ _ _ _ (stmts_parts E _ _ _) refl (c.loop-i.invariant.2 E s) (c.stmt_step-c.ensures E s))

pub returns : goal.returns
returns c = λ E s. all_ran _ _ _ (stmt_defs E _ _) _ _ _ _ _ _ c.loop-i.invariant.0 c.loop-i-test.false refl (c.loop-i.invariant.2 E s)
