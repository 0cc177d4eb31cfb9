use mathlib.Core.Path.{◌≡◌, sym, ap, ap₂, ◌∙◌}
use mathlib.Core.List.{List}
use Prim.Native.Nat.{ℕ, ◌+◌, ◌≤◌, ◌<◌}
use native.Mathlib.Omega.{arith}
use Rattle.definition.specs.Edition.{statements}
use Rattle.definition.specs.Lists.{sum_below}
use Rattle.definition.specs.Owners.{first_item}
use Rattle.defined.specs.Defined.{value_of, stmt_hits}
use Rattle.records.proofs.Items.{first_few, items_few, size_small}
use Rattle.records.proofs.Below.{sum_start, sum_turn, sum_done}
use Rattle.once.proofs.stmts_hits.Goals as goal
use Rattle.once.proofs.stmts_hits.Goals.{After-stmt_hits-sum}

-- what is counted of the statement that came, which is the next one of the file
hits_next : (c : After-stmt_hits-sum)
    → (c.stmt_hits-sum.result ≡ stmt_hits c.args.f.now (value_of c.args.v) c.loop-s.s-iterator.i)
    × (first_item c.args.f.now c.loop-s.s-iterator.i + c.stmt_hits-sum.result ≤ first_item c.args.f.now (c.loop-s.s-iterator.i + 1) + 2)
    × (first_item c.args.f.now (c.loop-s.s-iterator.i + 1) < 4294967296)
hits_next c =
    let step = c.in-Some.ensures.steps.1 in
    let file = step.0 ∙ c.loop-s.invariant.0 in
    let begins = c.in-Some.s.begins ∙ ap₂ first_item file step.1 in
    let ends = ap₂ (λ (f : List ℕ) (i : ℕ). first_item f (i + 1)) file step.1 in (
      c.stmt_hits-sum.ensures.0 ∙ ap₂ (λ (f : List ℕ) (i : ℕ). stmt_hits f (value_of c.args.v) i) file step.1,
      omega (arith, begins, ends, c.stmt_hits-sum.ensures.1),
      first_few _ (items_few _ c.type_inv.f c.requires) _ (omega (arith, c.loop-s.invariant.3, step.3)),
    )

pub loop-s-init : goal.loop-s-init
loop-s-init c =
    let all = c.of-s-items.ensures in
    rw c.into_iter-s-iterator.ensures.into_iter_gives (all.file, rw all.first (sum_start _), omega arith, omega (arith, all.first, all.many))

pub overflow_add-sum : goal.overflow_add-sum
overflow_add-sum c = let h = hits_next c in let inv = c.loop-s.invariant in omega (arith, size_small _ c.type_inv.f statements)

pub loop-s-preserved : goal.loop-s-preserved
loop-s-preserved c =
    let inv = c.loop-s.invariant in
    let steps = c.in-Some.ensures.steps in
    let h = hits_next c in (
      steps.0 ∙ inv.0,
      sum_turn _ inv.1 h.0 ∙ ap (λ (m : ℕ). sum_below m (stmt_hits c.args.f.now (value_of c.args.v))) (sym steps.1.2),
      omega (arith, h, inv.2, steps.1.2, ap (first_item c.args.f.now) steps.1.2),
      omega (arith, inv.3, steps.1.2, steps.1.3),
    )

pub returns : goal.returns
returns c =
    let inv = c.loop-s.invariant in
    let end = c.in-None.ensures.steps.1 in
    let few = items_few _ c.type_inv.f c.requires in (
      sum_done _ inv.3 inv.1 (omega (arith, end.0)),
      omega (arith, inv.2, inv.3, end.0, size_small _ c.type_inv.f statements, first_few _ few c.loop-s.s-iterator.i (omega (arith, inv.3, end.0))),
    )
