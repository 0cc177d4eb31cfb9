-- The values begin behind the expressions, at the sum where it fits 32 bits and else at the last place; their count is the run's length.
use native.Mathlib.Omega.{arith}
use Rattle.statements.specs.Items.{value_run}
use Rattle.statements.proofs.Laws.{behind_min}
use Rattle.statements.proofs.items.value_run.Goals as goal

pub returns : goal.returns
unfolding value_run
returns c = let e = behind_min c.args.first c.expr_items.result (omega arith) in cc
