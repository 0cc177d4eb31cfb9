-- Hits of what is assigned, what is returned and the items add up; the first two are 1 at most, the third at most the items.
use mathlib.Core.Path.{refl, ap, ap₂, ◌∙◌}
use native.Mathlib.Omega.{arith}
use Rattle.definition.specs.Values.{eqv}
use Rattle.definition.specs.Lists.{count}
use Rattle.defined.specs.Defined.{value_of, item_hits, stmt_hits, first_value}
use Rattle.defined.proofs.Values.{item_turn}
use Rattle.once.proofs.stmt_hits.Goals as goal

pub overflow_add-own : goal.overflow_add-own
overflow_add-own c = omega (arith, c.defined_hits-2.ensures.1, c.defined_hits.ensures.1)

pub returns : goal.returns
unfolding stmt_hits first_value
returns c =
    let v = value_of c.args.v in
    let f = c.args.s.f.now in
    let i = c.args.s.i in
    let a = c.defined_hits.ensures.0 ∙ ap (count (eqv v)) c.assigned_by.ensures in
    let b = c.defined_hits-2.ensures.0 ∙ ap (count (eqv v)) c.returned_by.ensures in
    let k = c.item_hits-items.ensures.0 ∙ ap₂ (item_hits f v) c.first_value.ensures.place c.value_items.ensures in
    (omega (arith, a, b, k), omega (arith, item_turn f i _ _ _ c.args.s.begins refl c.value_items.ensures, c.defined_hits.ensures.1, c.defined_hits-2.ensures.1, c.item_hits-items.ensures.1))
