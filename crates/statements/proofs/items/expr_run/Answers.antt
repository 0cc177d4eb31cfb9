-- The expressions come first among the items, so the run begins at the place given; its length is their count.
use Rattle.statements.specs.Items.{expr_run}
use Rattle.statements.proofs.items.expr_run.Goals as goal

pub returns : goal.returns
unfolding expr_run
returns c = cc
