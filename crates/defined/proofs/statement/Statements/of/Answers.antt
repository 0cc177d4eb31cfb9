-- No statement stands before the first, so its items begin at place 0; what is owned comes out exactly, so all items are few.
use Rattle.records.proofs.Items.{first_start, items_few}
use Rattle.defined.proofs.statement.Statements.of.Goals as goal

pub invariant_of-result : goal.invariant_of-result
invariant_of-result c = record { whole = c.requires; few = items_few _ c.type_inv.f c.requires; all = c.size_of.ensures; begins = first_start _ }
