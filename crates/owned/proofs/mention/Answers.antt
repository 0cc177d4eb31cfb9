-- Inside the table the entry is replaced by one more; past the table a mention changes nothing in the definition either.
use native.Mathlib.Omega.{arith}
use Rattle.owned.proofs.Tally.{mention_in, mention_out}
use Rattle.owned.proofs.mention.Goals as goal

pub returns-then-k-table : goal.returns-then-k-table
returns-then-k-table c = mention_in _ _ _ c.one_more.ensures

pub returns-else-k-table : goal.returns-else-k-table
returns-else-k-table c = mention_out _ _ (omega arith)
