use Rattle.passes.proofs.Turns.{sweep_stop, sweep_deep, sweep_on, sweep_start, if_pass, if_grows, counts_one, refused}
use Rattle.passes.specs.Sweeps.{swept, more, if_tried, sweep_rows}
use Rattle.std.specs.Prelude.{Result}
use Rattle.passes.specs.declared.sweeps.Formed.{Formed}
use Rattle.passes.specs.declared.sweeps.TooDeep.{TooDeep}
use lib.ListN.{length}
use mathlib.Core.Path.{refl, sym, ap, ◌∙◌}
use Prim.Native.Nat.{ℕ, ◌+◌, ◌-◌}
use native.Mathlib.Omega.{arith}
use Rattle.ifs.proofs.structure_ifs.Goals as goal

pub loop-k-init : goal.loop-k-init
loop-k-init c = (omega arith, omega arith, omega arith, refl, refl, sweep_start if_tried more _ _ _ _)

pub returns-in_err-try_if : goal.returns-in_err-try_if
returns-in_err-try_if c = let l = c.loop-k in
    let t = c.try_if in
    ap (λ (r : Result Formed TooDeep). swept r t.new.rows t.new.spans) (refused _ c.from_residual.ensures.0)
    ∙ if_pass _ _ _ _ _ c.note.ensures (sweep_deep if_tried more _ _ _ _ _ _ c.loop-k-test.true l.invariant.0 _ _ _ t.ensures _ c.in_err-try_if.was ∙ sym l.invariant.5)

pub overflow_add-rest : goal.overflow_add-rest
overflow_add-rest c = omega (arith, if_grows 18446744073709551615 _ _ _ _ _ _ _ c.in_ok-try_if.ensures c.loop-k.invariant.1 (omega (arith, c.loop-k.invariant.3)), c.from-formed.ensures)

pub loop-k-preserved : goal.loop-k-preserved
loop-k-preserved c = let l = c.loop-k in
    let t = c.try_if in
    let e = c.from-formed.ensures in
    let b = c.in_ok-try_if.field-0 in (
      omega (arith, if_grows (length c.args.rows.now + c.args.n) _ _ _ _ _ _ _ c.in_ok-try_if.ensures l.invariant.0 (omega (arith, l.invariant.3)), e),
      omega (arith, if_grows 18446744073709551615 _ _ _ _ _ _ _ c.in_ok-try_if.ensures l.invariant.1 (omega (arith, l.invariant.3)), e),
      omega (arith, counts_one b, e, l.invariant.2),
      t.auto.rows ∙ l.invariant.3,
      t.auto.spans ∙ l.invariant.4,
      l.invariant.5 ∙ sweep_on if_tried more _ _ _ _ _ _ c.loop-k-test.true l.invariant.0 _ _ _ t.ensures b c.in_ok-try_if.was
          ∙ ap (λ (x : ℕ). sweep_rows if_tried more (length c.args.rows.now + c.args.n - (l.k + 1)) t.new.rows t.new.spans (l.k + 1) (l.rest + x) (l.regions + x)) (sym e),
    )

pub returns : goal.returns
returns c = if_pass _ _ _ _ _ c.note.ensures (sweep_stop if_tried more _ _ _ _ _ _ c.loop-k-test.false ∙ sym c.loop-k.invariant.5)
