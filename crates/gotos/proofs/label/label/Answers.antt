-- The table's mark at the block is 1 exactly where the definition has a jump to its start, and only then the label and a colon are put as a line.
use Rattle.gotos.proofs.Ends.{label_put, label_none}
use Rattle.gotos.proofs.label.label.Goals as goal

pub returns-then-get-eq1 : goal.returns-then-get-eq1
returns-then-get-eq1 c = λ E. label_put E _ _ _ c.requires.labels c.requires.block_bound _ c.get.ensures _ _ _ _ _ _ _ _ _ c.if-get-eq1.true c.block_long-a.ensures c.put_label-out.ensures c.put-out.ensures c.end_line.ensures

pub returns : goal.returns
returns c = λ E. label_none E _ _ _ c.requires.labels c.requires.block_bound _ c.get.ensures _ c.if-get-eq1.false
