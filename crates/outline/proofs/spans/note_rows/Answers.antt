use Rattle.outline.proofs.SpanLaws.{note_turn, note_end, note_start}
use mathlib.Core.Path.{refl, sym, ◌∙◌}
use Rattle.outline.proofs.spans.note_rows.Goals as goal

pub loop-i-init : goal.loop-i-init
loop-i-init c = (refl, note_start _ _ _)

pub loop-i-preserved : goal.loop-i-preserved
loop-i-preserved c = (c.note_row.auto.spans ∙ c.loop-i.invariant.0, c.loop-i.invariant.1 ∙ note_turn _ _ _ _ c.loop-i-test.true _ c.get.ensures _ c.note_row.ensures)

pub returns : goal.returns
returns c = sym (c.loop-i.invariant.1 ∙ note_end _ _ _ _ c.loop-i-test.false)
