use Rattle.passes.proofs.Goals.{unless_later, back_start, back_none, back_ended, back_on, back_hit}
use Rattle.passes.specs.Regions.{back_from}
use Rattle.std.specs.Prelude.{Option}
use mathlib.Core.Path.{sym, ap, ◌∙◌}
use Prim.Native.Nat.{ℕ, ◌+◌, ◌-◌}
use native.Mathlib.Omega.{arith}
use Rattle.loops.proofs.last_back.Goals as goal
use Rattle.loops.proofs.last_back.Goals.{in-Pass, in-Hit}

pub loop-j-init : goal.loop-j-init
loop-j-init c = back_start _ _

pub returns-in-End : goal.returns-in-End
returns-in-End c = back_ended _ _ _ _ _ _ c.loop-j-test.true _ c.get.ensures c.in-End.ensures ∙ sym c.loop-j.invariant

pub loop-j-preserved : goal.loop-j-preserved
loop-j-preserved c = let l = c.loop-j in
    let a = c.args in
    let on = λ (x : Option ℕ). unless_later a.n x (back_from a.n a.m a.d a.rows.now (l.j + 1) (a.n - (l.j + 1))) in
    elim c.match-judge_back.branch [
      | in-Pass w ↦ l.invariant ∙ back_on _ _ _ _ _ _ c.loop-j-test.true _ c.get.ensures w.in-Pass.ensures ∙ ap on (grind arith)
      | in-Hit w ↦ l.invariant ∙ back_hit _ _ _ _ _ _ c.loop-j-test.true _ c.get.ensures w.in-Hit.ensures ∙ ap on (grind arith)
    ]

pub returns : goal.returns
returns c = back_none _ _ _ _ _ _ c.loop-j-test.false ∙ sym c.loop-j.invariant
