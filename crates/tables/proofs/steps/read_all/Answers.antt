-- What is read is what naming asks for; of the six tables four are emptied, as long as before, and the two that lowering asks for stay.
use Rattle.tables.proofs.Staging.{unread, read_so, counted}
use mathlib.Core.Path.{◌∙◌}
use Rattle.tables.proofs.steps.read_all.Goals as goal

pub read_tables-requires : goal.read_tables-requires
read_tables-requires c = unread _ _ c.requires.grounded _ _ _ _ _ _ c.requires.unread

pub name_all-requires : goal.name_all-requires
name_all-requires c = let pre = c.requires in
    record { grounded = pre.grounded; keys_value = pre.keys_value; stacked = pre.stacked; read_as = read_so _ _ pre.grounded _ _ _ _ _ _ c.read_tables.ensures; unnamed = pre.unnamed; unmarked = pre.unmarked }

pub returns : goal.returns
returns c = let pre = c.requires in
    let read_tables = c.read_tables in
    let name_all = c.name_all in
    record { counted = counted _ _ pre.grounded _ _ _ _ _ _ _ _ _ _ _ _ name_all.new.spare _ _ _ _ pre.unread read_tables.ensures read_tables.auto.order read_tables.auto.starts read_tables.auto.loads (name_all.auto.spare ∙ read_tables.auto.readers) c.clear_four.ensures; called = name_all.ensures.called }
