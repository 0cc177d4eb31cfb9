-- A block that is left has no line; otherwise the goto goes where it falls, else where it branches, and with neither edge there is none.
use Rattle.gotos.proofs.Ends.{closing_leaves, closing_goes, closing_none}
use Rattle.gotos.proofs.closing.closing.Goals as goal

pub returns-then-leaves : goal.returns-then-leaves
returns-then-leaves c = λ E. closing_leaves E _ _ _ _ c.if-leaves.true

pub returns-in_default : goal.returns-in_default
returns-in_default c = λ E. closing_none E _ _ _ c.if-leaves.false _ c.block_at-b.ensures _ c.or.ensures _ c.in_default.is

pub returns : goal.returns
returns c = λ E. closing_goes E _ _ _ c.if-leaves.false _ c.block_at-b.ensures _ c.or.ensures _ c.in-Some.is _ _ (c.close_to.ensures E)
