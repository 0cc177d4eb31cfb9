use Rattle.render.proofs.Around.{stays, binary_is, unary_is, through_is, below_nothing, below_within, below_place, below_named, below_form, below_leaf, below_use}
use Rattle.render.proofs.Valued.{was_open, open_falls, all_within, value_address, value_opened, value_named}
use Rattle.render.proofs.Falling.{falls_value, falls_node, falls_child}
use native.Mathlib.Omega.{arith}
use Rattle.render.proofs.expr.+rendering.Goals as goal

pub below-returns-then-out : goal.below-returns-then-out
below-returns-then-out t c = λ E e. stays _ _ _ _ c.if-out.true

pub below-returns-then-at : goal.below-returns-then-at
below-returns-then-at t c = below_nothing _ _ _ _ _ _ _ _ c.if-at.true c.put_nothing.ensures

pub below-overflow_add-place : goal.below-overflow_add-place
below-overflow_add-place t c = omega (arith, below_place _ _ _ c.requires c.if-at.false _ _ c.args.src.now.told.ground, c.well_formed.1.1.1.1.0)

pub below-value-requires : goal.below-value-requires
below-value-requires t c = (falls_value _ _ _ _ c.decreases c.if-at.false, below_named _ _ _ c.requires c.if-at.false _ _ c.args.src.now.told.ground _ _ c.form_of.ensures _ c.in-Use.is c.args.src.now.of.bytes)

pub below-binary-requires : goal.below-binary-requires
below-binary-requires t c = (falls_node _ _ _ _ c.decreases c.if-at.false, below_within _ _ _ c.requires c.if-at.false)

pub below-unary-requires : goal.below-unary-requires
below-unary-requires t c = (falls_node _ _ _ _ c.decreases c.if-at.false, below_within _ _ _ c.requires c.if-at.false)

pub below-through-requires : goal.below-through-requires
below-through-requires t c = (falls_node _ _ _ _ c.decreases c.if-at.false, below_within _ _ _ c.requires c.if-at.false)

pub below-returns-in-Leaf : goal.below-returns-in-Leaf
below-returns-in-Leaf t c = below_leaf _ _ _ _ _ _ c.requires c.if-at.false _ c.form_of.ensures _ _ _ c.in-Leaf.is c.put_leaf.ensures

pub below-returns-in-Use : goal.below-returns-in-Use
below-returns-in-Use t c = below_use _ _ _ _ _ _ c.requires c.if-at.false _ c.form_of.ensures _ c.in-Use.is _ _ c.args.src.now.told.ground c.args.src.now.of.bytes _ _ c.value.ensures

pub below-returns-in-Bin : goal.below-returns-in-Bin
below-returns-in-Bin t c = below_form _ _ _ _ _ _ c.requires c.if-at.false _ c.form_of.ensures _ _ _ c.in-Bin.is c.binary.ensures

pub below-returns-in-Un : goal.below-returns-in-Un
below-returns-in-Un t c = below_form _ _ _ _ _ _ c.requires c.if-at.false _ c.form_of.ensures _ _ _ c.in-Un.is c.unary.ensures

pub below-returns-in-Through : goal.below-returns-in-Through
below-returns-in-Through t c = below_form _ _ _ _ _ _ c.requires c.if-at.false _ c.form_of.ensures _ _ _ c.in-Through.is c.through.ensures

pub binary-below-out-requires : goal.binary-below-out-requires
binary-below-out-requires t c = (falls_child _ _ _ c.decreases, c.requires)

pub binary-below-out-requires-2 : goal.binary-below-out-requires-2
binary-below-out-requires-2 t c = (falls_child _ _ _ c.decreases, c.requires)

pub binary-returns : goal.binary-returns
binary-returns t c = binary_is _ _ _ _ _ _ _ _ _ _ _ _ c.put_if-out.ensures c.below-out.ensures c.put_operator-out.ensures c.below-out-2.ensures c.put_if.ensures

pub through-below-out-requires : goal.through-below-out-requires
through-below-out-requires t c = (falls_child _ _ _ c.decreases, c.requires)

pub through-returns : goal.through-returns
through-returns t c = through_is _ _ _ _ _ _ _ _ _ _ c.put_cast-out.ensures c.below-out.ensures c.put.ensures

pub unary-below-requires : goal.unary-below-requires
unary-below-requires t c = (falls_child _ _ _ c.decreases, c.requires)

pub unary-returns : goal.unary-returns
unary-returns t c = unary_is _ _ _ _ _ _ _ _ _ c.put_text-out.ensures c.below.ensures

pub value-returns-then-out : goal.value-returns-then-out
value-returns-then-out t c = λ E e. stays _ _ _ _ c.if-out.true

pub value-returns-then-s-ne0 : goal.value-returns-then-s-ne0
value-returns-then-s-ne0 t c = value_address _ _ _ _ _ _ _ c.args.src.now.told _ _ c.requires _ _ _ _ _ _ c.get-v.ensures c.get-s.ensures c.if-s-ne0.true c.put_address.ensures

pub value-overflow_sub-i : goal.value-overflow_sub-i
value-overflow_sub-i t c = (was_open _ _ _ c.is_open.ensures c.if-is_open.true).some

pub value-below-requires : goal.value-below-requires
value-below-requires t c = (open_falls _ _ _ _ _ c.decreases (was_open _ _ _ c.is_open.ensures c.if-is_open.true) c.args.src.now.of.bytes c.size_of.ensures, all_within _ _ c.size_of.ensures)

pub value-returns-then-is_open : goal.value-returns-then-is_open
value-returns-then-is_open t c = value_opened _ _ _ _ _ _ _ c.args.src.now.told _ _ c.requires _ _ _ _ _ _ c.get-v.ensures c.get-s.ensures c.if-s-ne0.false _ c.get-k.ensures _ _ _ c.is_open.ensures c.if-is_open.true c.size_of.ensures c.stmt_field.ensures c.below.ensures

pub value-returns : goal.value-returns
value-returns t c = value_named _ _ _ _ _ _ _ c.args.src.now.told _ _ c.requires _ _ _ _ _ _ c.get-v.ensures c.get-s.ensures c.if-s-ne0.false _ c.get-k.ensures _ _ _ c.is_open.ensures c.if-is_open.false c.bits_of.ensures c.get.ensures c.put_code.ensures
