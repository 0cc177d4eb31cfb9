-- Without a computed call's address the first items are a shorter run of the call's own, whose places fit 32 bits.
use Rattle.calling.proofs.Taking.{skip_fits, sum_fits, run_fits}
use Rattle.calling.proofs.Whole.{counted_all}
use native.Mathlib.Omega.{arith}
use Rattle.calling.proofs.args.put_counted.Goals as goal

pub overflow_sub-n : goal.overflow_sub-n
overflow_sub-n c = omega (arith, skip_fits _ c.args.src.now.of.bytes _ _ c.requires _ c.stmt_field-n.ensures _ _ c.skipped-s.ensures)

pub overflow_add-item : goal.overflow_add-item
overflow_add-item c = omega (arith, sum_fits _ c.args.src.now.of.bytes _ _ c.requires _ c.stmt_field-n.ensures _ _ c.skipped-s.ensures)

pub put_items-requires : goal.put_items-requires
put_items-requires c = run_fits _ c.args.src.now.of.bytes _ _ c.requires _ c.stmt_field-n.ensures _ _ c.skipped-s.ensures _ _ c.min-m.ensures

pub returns : goal.returns
returns c = λ E s. counted_all E _ _ _ _ _ _ _ _ _ _ _ _ c.stmt_field-start.ensures c.stmt_field-len.ensures c.stmt_field-n.ensures (c.is_indirect.ensures E s) c.skipped-s.ensures c.min-m.ensures (c.put_items.ensures E s)
