-- Gathered by the spans noted, the kept rows stand in front in order; clearing puts zeros up to the end of the first n rows.
use Rattle.passes.proofs.Gathering.{count_is, count_le, drop_all}
use native.Mathlib.Omega.{arith}
use Rattle.dropping.proofs.drop_unused_labels.Goals as goal

pub gather-c-requires : goal.gather-c-requires
gather-c-requires c = count_le _ c.args.n _ (count_is _ _ _ c.min-m.ensures)

pub clear-requires : goal.clear-requires
clear-requires c = (c.gather-c.ensures.1, omega (arith, c.gather-c.auto.rows, count_le c.args.rows.now c.args.n _ (count_is _ _ _ c.min-m.ensures)))

pub returns : goal.returns
returns c = drop_all _ _ _ _ _ _ _ _ c.note.ensures (count_is _ _ _ c.min-m.ensures) c.gather-c.ensures.0 c.clear.ensures
