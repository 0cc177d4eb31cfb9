-- The rows code the lowered lines, so what the passes leave is the definition's lines; these fit, so the sheet holds them; both tables are wiped.
use Rattle.structure.proofs.Whole.{known_heads, finishes}
use Rattle.structure.proofs.structure.Goals as goal

pub answer-r-requires : goal.answer-r-requires
answer-r-requires c = let a = c.args in known_heads a.from.now a.lowered.now a.source.now a.rows.now a.spans.now a.n _ c.sorts.ensures c.sorts.auto.rows _ _ c.passes_of-passes.ensures c.passes_of-passes.auto.rows c.requires

pub returns : goal.returns
returns c = let a = c.args in finishes a.from.now a.lowered.now a.source.now a.rows.now a.spans.now a.n _ c.sorts.ensures c.sorts.auto.rows _ _ c.passes_of-passes.ensures c.passes_of-passes.auto.rows _ _ _ _ _ _ _ _ c.passes_of-passes.new.spans _ c.answer-r.ensures c.passes_of-passes.auto.spans c.wipe.ensures
