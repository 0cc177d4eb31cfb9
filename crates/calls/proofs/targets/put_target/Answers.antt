-- By whether a block begins at the address: then the piece is its label, and else the name of what is outside.
use Rattle.calls.proofs.Naming.{put_label, put_name}
use Rattle.calls.proofs.targets.put_target.Goals as goal

pub returns-then-is_block : goal.returns-then-is_block
returns-then-is_block c = λ E s. put_label _ _ _ c.is_block.ensures E _ _ s _ _ c.if-is_block.true c.put_start.ensures

pub returns-else-is_block : goal.returns-else-is_block
returns-else-is_block c = λ E s. put_name _ _ _ c.is_block.ensures E _ _ s _ _ c.if-is_block.false c.put_outside.ensures
