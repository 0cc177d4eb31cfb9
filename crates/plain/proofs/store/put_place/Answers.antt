-- The offset of its address decides: one that is not 0 is a slot and prints its name, 0 is a store through the address.
use Rattle.plain.proofs.Writing.{into_slot, into_through}
use Rattle.plain.proofs.store.put_place.Goals as goal

pub returns-then-s-ne0 : goal.returns-then-s-ne0
returns-then-s-ne0 c = λ E s. into_slot E _ _ _ _ c.stmt_field-n.ensures (c.stack_off-s.ensures E _ s (c.args.src.now.told.known E s)) _ _ c.if-s-ne0.true c.put_slot.ensures

pub returns : goal.returns
returns c = λ E s. into_through E _ _ _ _ c.stmt_field-n.ensures (c.stack_off-s.ensures E _ s (c.args.src.now.told.known E s)) _ _ _ c.if-s-ne0.false c.stmt_field-bytes.ensures (c.put_through.ensures E s)
