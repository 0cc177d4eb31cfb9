use Rattle.passes.proofs.Turns.{sweep_stop, sweep_deep, sweep_on, sweep_start, do_pass, counts_one, refused}
use Rattle.passes.specs.Sweeps.{swept, do_tried, keeps, sweep_rows}
use Rattle.std.specs.Prelude.{Result}
use Rattle.passes.specs.declared.sweeps.Formed.{Formed}
use Rattle.passes.specs.declared.sweeps.TooDeep.{TooDeep}
use lib.ListN.{length}
use mathlib.Core.Path.{refl, sym, ap, ◌∙◌}
use Prim.Native.Nat.{ℕ, ◌+◌, ◌-◌}
use native.Mathlib.Omega.{arith}
use Rattle.loops.proofs.structure_do_while.Goals as goal

pub loop-k-init : goal.loop-k-init
loop-k-init c = (omega arith, refl, refl, sweep_start do_tried keeps _ _ _ _)

pub returns-in_err-try_do : goal.returns-in_err-try_do
returns-in_err-try_do c = let t = c.try_do in
    ap (λ (r : Result Formed TooDeep). swept r t.new.rows t.new.spans) (refused _ c.from_residual.ensures.0)
    ∙ do_pass _ _ _ _ _ c.note.ensures (sweep_deep do_tried keeps _ _ _ _ _ _ c.loop-k-test.true (omega arith) _ _ _ t.ensures _ c.in_err-try_do.was ∙ sym c.loop-k.invariant.3)

pub overflow_add-regions : goal.overflow_add-regions
overflow_add-regions c = omega (arith, counts_one c.in_ok-try_do.field-0, c.from.ensures, c.loop-k.invariant.0)

pub loop-k-preserved : goal.loop-k-preserved
loop-k-preserved c = let l = c.loop-k in
    let t = c.try_do in
    let e = c.from.ensures in
    let b = c.in_ok-try_do.field-0 in (
      omega (arith, counts_one b, e, l.invariant.0),
      t.auto.rows ∙ l.invariant.1,
      t.auto.spans ∙ l.invariant.2,
      l.invariant.3 ∙ sweep_on do_tried keeps _ _ _ _ _ _ c.loop-k-test.true (omega arith) _ _ _ t.ensures b c.in_ok-try_do.was
          ∙ ap (λ (x : ℕ). sweep_rows do_tried keeps (length c.args.rows.now + c.args.n - (l.k + 1)) t.new.rows t.new.spans (l.k + 1) c.args.n (l.regions + x)) (sym e),
    )

pub returns : goal.returns
returns c = do_pass _ _ _ _ _ c.note.ensures (sweep_stop do_tried keeps _ _ _ _ _ _ c.loop-k-test.false ∙ sym c.loop-k.invariant.3)
