-- With a goal it jumps there, its first uses as arguments, a run that fits 32 bits; without one it is a computed goto.
use Rattle.jumps.proofs.Branching.{args_fit, plain_goes, plain_computed}
use Rattle.jumps.proofs.branch.plain_branch.Goals as goal

pub jump_to-requires : goal.jump_to-requires
jump_to-requires c = record { block_bound = c.requires.inside; n_bound = args_fit _ _ _ _ c.requires c.args.src.now.of.bytes _ _ _ c.stmt_field.ensures c.min-n.ensures }

pub returns-in_default : goal.returns-in_default
returns-in_default c = λ E s. plain_computed E _ _ _ _ _ _ _ _ c.goal.ensures c.in_default.is (c.computed.ensures E s)

pub returns : goal.returns
returns c = λ E s. plain_goes E _ _ _ _ _ _ _ _ c.goal.ensures _ _ _ c.in-Some.is c.stmt_field.ensures c.min-n.ensures (c.jump_to.ensures E s)
