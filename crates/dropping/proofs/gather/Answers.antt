use Rattle.passes.proofs.Gathering.{gather_turn, gather_end, gather_start, place_yes, place_no}
use Rattle.passes.specs.Dropping.{kept_row, gathered, placed}
use mathlib.Core.Path.{◌≡◌, refl, sym, ap₂, ◌∙◌}
use native.Mathlib.Omega.{arith}
use Rattle.dropping.proofs.gather.Goals as goal
use Rattle.dropping.proofs.gather.Goals.{then-is_kept, else-is_kept}

pub loop-i-init : goal.loop-i-init
loop-i-init c = (omega arith, refl, gather_start (kept_row _ _) _ _)

pub loop-i-preserved : goal.loop-i-preserved
loop-i-preserved c = let l = c.loop-i in
    let k = c.if-is_kept in
    let e : gathered k.c k.rows ≡ placed c.is_kept.result l.rows l.c c.get-w.result = elim k.branch [
      | then-is_kept w ↦ ap₂ gathered w.c-is w.rows-is ∙ place_yes _ _ _ _ w.if-is_kept.true
      | else-is_kept w ↦ ap₂ gathered w.c-is w.rows-is ∙ place_no _ _ _ _ w.if-is_kept.false
    ] in (
      elim k.branch [ then-is_kept w ↦ omega (arith, w.c-is) | else-is_kept w ↦ omega (arith, w.c-is) ],
      k.auto.rows ∙ l.invariant.1,
      l.invariant.2 ∙ gather_turn (kept_row _ _) _ _ _ _ c.loop-i-test.true _ c.get-w.ensures _ c.is_kept.ensures _ _ e,
    )

pub returns : goal.returns
returns c = (gather_end (kept_row _ _) _ _ _ _ c.loop-i-test.false ∙ sym c.loop-i.invariant.2, omega (arith, c.loop-i.invariant.0))
