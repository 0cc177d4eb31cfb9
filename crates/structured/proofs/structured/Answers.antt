-- A refusal is answered over zeros; else structuring is lent the fronts of rows and spans, which come back as zeros, and its answer is given.
use mathlib.Core.Path.{sym}
use lib.Seq.{length-take-le}
use Rattle.structured.proofs.Structuring.{refuses, finishes}
use Rattle.structured.proofs.structured.Goals as goal

pub returns-then-low-ne0 : goal.returns-then-low-ne0
returns-then-low-ne0 c = refuses _ _ _ _ _ _ _ _ _ c.requires _ c.if-low-ne0.true c.refused.ensures

pub slice_bounds-structure-end : goal.slice_bounds-structure-end
slice_bounds-structure-end c = (c.requires.long c.if-low-ne0.false).0

pub slice_bounds-structure-end-2 : goal.slice_bounds-structure-end-2
slice_bounds-structure-end-2 c = sym (length-take-le 1536 c.args.rows.now (c.requires.long c.if-low-ne0.false).0)

pub slice_bounds-structure-end-3 : goal.slice_bounds-structure-end-3
slice_bounds-structure-end-3 c = (c.requires.long c.if-low-ne0.false).1

pub slice_bounds-structure-end-4 : goal.slice_bounds-structure-end-4
slice_bounds-structure-end-4 c = sym (length-take-le 769 c.args.spans.now (c.requires.long c.if-low-ne0.false).1)

pub structure-requires : goal.structure-requires
structure-requires c = c.requires.known c.if-low-ne0.false

pub returns : goal.returns
returns c = finishes _ _ _ _ _ _ _ _ _ c.requires _ c.if-low-ne0.false _ _ _ _ _ _ c.structure.ensures c.answer_of.ensures
