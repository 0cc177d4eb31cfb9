-- Edges, then targets, are all the definition's jumps; no two blocks begin alike, so those marked are the ones that a jump goes to.
use Rattle.labels.proofs.Jumping.{labels_are}
use Rattle.labels.proofs.labels.Goals as goal

pub returns : goal.returns
returns c = labels_are c.args.f.now _ _ _ c.requires.f_value.0 c.requires.f_value.1 c.requires.tab_value.0 c.requires.tab_value.1 c.label_edges.ensures c.label_targets.ensures
