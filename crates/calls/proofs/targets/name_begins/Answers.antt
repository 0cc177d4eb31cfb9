-- A name's text stands at its section's offset and the start in its record, so the test of that part is one of the name.
use Rattle.calls.proofs.Naming.{begins_name}
use Rattle.calls.proofs.targets.name_begins.Goals as goal

pub returns : goal.returns
returns c = begins_name _ _ _ _ _ _ _ _ c.offset_of.ensures c.name_word.ensures c.name_word-2.ensures c.begins_part.ensures
