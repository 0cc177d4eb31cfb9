use native.Mathlib.Omega.{arith}
use mathlib.Core.Path.{refl}
use borrow.Author.Tests.{eq-eqb, ne_eqb}
use Rattle.std.proofs.lemmas.Grind.{common_steps}
use Rattle.definition.specs.Values.{eqv}
use Rattle.definition.specs.Ssa.{eqe}
use Rattle.ssa.specs.View.{view_node}
use Rattle.flags.proofs.Nodes.{texts_seen, told, no_const, no_use, no_bin, no_un, no_load, no_opaque}
use Rattle.flags.proofs.same.+same_below.Goals as goal

pub returns-in-Const-Const : goal.returns-in-Const-Const
unfolding eqe view_node
returns-in-Const-Const t c = told _ _ _ _ _ _ _ _ c.node_below.ensures c.node_below-2.ensures _ _ c.in-Const-Const.is-0 c.in-Const-Const.is-1 _ (λ E e. refl)

pub returns-then-v-w : goal.returns-then-v-w
unfolding eqe eqv view_node
returns-then-v-w t c = told _ _ _ _ _ _ _ _ c.node_below.ensures c.node_below-2.ensures _ _ c.in-Use-Use.is-0 c.in-Use-Use.is-1 _ (λ E e. rw (eq-eqb _ _ c.if-v-w.true))

pub returns-else-v-w : goal.returns-else-v-w
unfolding eqe eqv view_node
returns-else-v-w t c = told _ _ _ _ _ _ _ _ c.node_below.ensures c.node_below-2.ensures _ _ c.in-Use-Use.is-0 c.in-Use-Use.is-1 _ (λ E e. rw (ne_eqb _ _ c.if-v-w.false))

pub returns-then-same_below : goal.returns-then-same_below
unfolding eqe view_node
returns-then-same_below t c = told _ _ _ _ _ _ _ _ c.node_below.ensures c.node_below-2.ensures _ _ c.in-Bin-Bin.is-0 c.in-Bin-Bin.is-1 _
    (λ E e. grind (arith, common_steps, texts_seen _ _ E e _ _ _ c.same_texts.ensures, c.same_below-then-same_below.ensures E e))

pub returns-then-same_texts-2 : goal.returns-then-same_texts-2
unfolding eqe view_node
returns-then-same_texts-2 t c = told _ _ _ _ _ _ _ _ c.node_below.ensures c.node_below-2.ensures _ _ c.in-Un-Un.is-0 c.in-Un-Un.is-1 _
    (λ E e. grind (arith, common_steps, texts_seen _ _ E e _ _ _ c.same_texts-in-Un-Un.ensures, c.same_below-then-same_texts-2.ensures E e))

pub returns-else-same_texts-2 : goal.returns-else-same_texts-2
unfolding eqe view_node
returns-else-same_texts-2 t c = told _ _ _ _ _ _ _ _ c.node_below.ensures c.node_below-2.ensures _ _ c.in-Un-Un.is-0 c.in-Un-Un.is-1 _
    (λ E e. grind (arith, common_steps, texts_seen _ _ E e _ _ _ c.same_texts-in-Un-Un.ensures))

pub returns-then-p-q : goal.returns-then-p-q
unfolding eqe view_node
returns-then-p-q t c = told _ _ _ _ _ _ _ _ c.node_below.ensures c.node_below-2.ensures _ _ c.in-Load-Load.is-0 c.in-Load-Load.is-1 _
    (λ E e. rw (eq-eqb _ _ c.if-p-q.true) (c.same_below-then-p-q.ensures E e))

pub returns-else-p-q : goal.returns-else-p-q
unfolding eqe view_node
returns-else-p-q t c = told _ _ _ _ _ _ _ _ c.node_below.ensures c.node_below-2.ensures _ _ c.in-Load-Load.is-0 c.in-Load-Load.is-1 _
    (λ E e. rw (ne_eqb _ _ c.if-p-q.false))

pub returns-in-Opaque-Opaque : goal.returns-in-Opaque-Opaque
unfolding eqe view_node
returns-in-Opaque-Opaque t c = told _ _ _ _ _ _ _ _ c.node_below.ensures c.node_below-2.ensures _ _ c.in-Opaque-Opaque.is-0 c.in-Opaque-Opaque.is-1 _
    (λ E e. texts_seen _ _ E e _ _ _ c.same_texts-in-Opaque-Opaque.ensures)

pub returns-in_default : goal.returns-in_default
returns-in_default t c = told _ _ _ _ _ _ _ _ c.node_below.ensures c.node_below-2.ensures _ _ c.in_default.is-0 refl _ (λ E e. no_const E _ _ _ _ _ c.in_default.not-Const-1)

pub returns-in_default-2 : goal.returns-in_default-2
returns-in_default-2 t c = told _ _ _ _ _ _ _ _ c.node_below.ensures c.node_below-2.ensures _ _ c.in_default.is-0 refl _ (λ E e. no_use E _ _ _ _ _ c.in_default.not-Use-1)

pub returns-in_default-3 : goal.returns-in_default-3
returns-in_default-3 t c = told _ _ _ _ _ _ _ _ c.node_below.ensures c.node_below-2.ensures _ _ c.in_default.is-0 refl _ (λ E e. no_bin E _ _ _ _ _ c.in_default.not-Bin-1)

pub returns-in_default-4 : goal.returns-in_default-4
returns-in_default-4 t c = told _ _ _ _ _ _ _ _ c.node_below.ensures c.node_below-2.ensures _ _ c.in_default.is-0 refl _ (λ E e. no_un E _ _ _ _ _ c.in_default.not-Un-1)

pub returns-in_default-5 : goal.returns-in_default-5
returns-in_default-5 t c = told _ _ _ _ _ _ _ _ c.node_below.ensures c.node_below-2.ensures _ _ c.in_default.is-0 refl _ (λ E e. no_load E _ _ _ _ _ c.in_default.not-Load-1)

pub returns-in_default-6 : goal.returns-in_default-6
returns-in_default-6 t c = told _ _ _ _ _ _ _ _ c.node_below.ensures c.node_below-2.ensures _ _ c.in_default.is-0 refl _ (λ E e. no_opaque E _ _ _ _ _ c.in_default.not-Opaque-1)

pub returns-else-same_below : goal.returns-else-same_below
unfolding eqe view_node
returns-else-same_below t c = told _ _ _ _ _ _ _ _ c.node_below.ensures c.node_below-2.ensures _ _ c.in-Bin-Bin.is-0 c.in-Bin-Bin.is-1 _
    (λ E e. grind (arith, common_steps, texts_seen _ _ E e _ _ _ c.same_texts.ensures))
