-- The width decides as in the definition: of 32 bits the arguments are the pushes that wait, otherwise the first list items.
use Rattle.calling.proofs.Whole.{args_pushed, args_counted}
use Rattle.calling.proofs.args.put_args.Goals as goal

pub returns-then-bits_of-eq32 : goal.returns-then-bits_of-eq32
returns-then-bits_of-eq32 c = λ E s. args_pushed E _ _ _ _ _ _ c.bits_of.ensures _ _ c.if-bits_of-eq32.true (c.put_waiting.ensures E s)

pub returns : goal.returns
returns c = λ E s. args_counted E _ _ _ _ _ _ c.bits_of.ensures _ _ c.if-bits_of-eq32.false (c.put_counted.ensures E s)
