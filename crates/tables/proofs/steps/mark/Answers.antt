-- With the file's offsets and roots, marking from zeros leaves the classes that are really read, and the labels are made from zeros alone.
use Rattle.tables.proofs.Staging.{unmarked, unlabelled, marked}
use Rattle.tables.proofs.steps.mark.Goals as goal

pub read_roots-requires : goal.read_roots-requires
read_roots-requires c = let q = unmarked _ _ c.requires.grounded _ _ _ _ c.requires.unmarked c.requires.ordered in record { ordered = q.1.0; tab_value = q.1.1 }

pub labels-requires : goal.labels-requires
labels-requires c = let q = unlabelled _ _ c.requires.grounded _ _ c.requires.unmarked in record { f_value = q.0; tab_value = q.1 }

pub returns : goal.returns
returns c =
    let pre = c.requires in
    marked _ _ pre.grounded _ _ _ _ _ _ pre.stacked pre.rooted pre.unmarked c.read_roots.ensures c.labels.ensures
