-- A block's definitions are its phis' and then its statements', so that the two runs make one; the counts lead to the next block.
use Rattle.rounds.proofs.Walking.{walk_phis, walk_stmts, walk_input, before_next}
use Rattle.rounds.proofs.Running.{block_ran}
use Rattle.records.proofs.Items.{size_small}
use native.Mathlib.Omega.{arith}
use mathlib.Core.Path.{refl, ◌∙◌}
use Rattle.rounds.proofs.block_round.Goals as goal

pub phis_round-p-requires : goal.phis_round-p-requires
phis_round-p-requires c = let p = c.requires in record { tab_len = p.tab_len; n_bound = (walk_phis _ c.args.of.now.ground.counts _ _ p.b_bound.0 p.b_bound.1 _ c.block_phis-n.ensures, walk_input _ c.args.of.now.ground.counts _ _ p.b_bound.0 p.b_bound.1) }

pub stmts_round-c-requires : goal.stmts_round-c-requires
stmts_round-c-requires c = let p = c.requires in record { tab_len = c.phis_round-p.auto.tab ∙ p.tab_len; n_bound = walk_stmts _ c.args.of.now.ground.counts _ _ p.b_bound.0 p.b_bound.1 _ c.block_stmts-m.ensures }

pub overflow_add-result : goal.overflow_add-result
overflow_add-result c = let p = c.requires in omega (arith, walk_phis _ c.args.of.now.ground.counts _ _ p.b_bound.0 p.b_bound.1 _ c.block_phis-n.ensures, size_small c.args.of.now.f.now c.args.of.now.bytes 2)

pub overflow_add-result-2 : goal.overflow_add-result-2
overflow_add-result-2 c = let p = c.requires in omega (arith, walk_stmts _ c.args.of.now.ground.counts _ _ p.b_bound.0 p.b_bound.1 _ c.block_stmts-m.ensures, size_small c.args.of.now.f.now c.args.of.now.bytes 4)

pub returns : goal.returns
returns c = let p = c.requires in (before_next _ _ _ _ _ _ _ p.b_bound.1 c.block_phis-n.ensures c.block_stmts-m.ensures c.phis_round-p.ensures.0, λ E s. block_ran _ _ _ E _ _ _ _ _ _ _ _ _ _ _ p.b_bound.1.phi p.b_bound.1.stmt c.block_phis-n.ensures c.block_stmts-m.ensures refl c.phis_round-p.ensures.1 (c.stmts_round-c.ensures E s))
