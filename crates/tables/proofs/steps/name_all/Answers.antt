-- The variables' roots and places serve the names, the roots then the marks; spare is emptied between, and naming leaves its scratch as zeros.
use Rattle.tables.proofs.Staging.{shared, unplaced, nameable, nameless, rooted_so, unmarked_still, called}
use Rattle.tables.proofs.steps.name_all.Goals as goal

pub variables-requires : goal.variables-requires
variables-requires c = let pre = c.requires in
    record { shared = shared _ _ pre.grounded _ _ _ _ _ _ _ pre.keys_value pre.read_as; unplaced = unplaced _ _ pre.grounded _ _ _ pre.unnamed }

pub name_variables-requires : goal.name_variables-requires
name_variables-requires c = let pre = c.requires in
    record { nameable = nameable _ _ pre.grounded _ _ _ _ c.variables.ensures pre.read_as.flat; nameless = nameless _ _ pre.grounded _ _ _ _ _ _ _ pre.unnamed pre.unmarked pre.read_as.last c.clear.ensures }

pub mark-requires : goal.mark-requires
mark-requires c = let pre = c.requires in
    record { grounded = pre.grounded; stacked = pre.stacked; rooted = (rooted_so _ _ pre.grounded _ _ c.variables.ensures).rooted; ordered = pre.read_as.flat; unmarked = unmarked_still _ _ pre.grounded _ _ _ _ _ pre.unmarked c.name_variables.ensures }

pub returns : goal.returns
returns c = let q = called _ _ c.requires.grounded _ _ _ _ _ _ _ c.variables.ensures c.name_variables.ensures c.mark.ensures in record { called = q.0; entry_read = q.1 }
