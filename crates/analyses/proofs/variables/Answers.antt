-- The classes come from keys and numbers, what is written in place from the reads; the roots' table is as long as the numbers, as is asked.
use Rattle.analyses.proofs.Gathered.{for_classes, all_placed_lem}
use Rattle.analyses.proofs.variables.Goals as goal

pub classes-requires : goal.classes-requires
classes-requires c = for_classes _ _ _ _ _ _ _ c.requires.shared _ c.requires.unplaced.as_roots

pub inline-requires : goal.inline-requires
inline-requires c = c.requires.unplaced.no_places

pub returns : goal.returns
returns c = all_placed_lem _ _ _ _ _ c.requires.unplaced.as_roots c.classes.ensures c.inline.ensures
