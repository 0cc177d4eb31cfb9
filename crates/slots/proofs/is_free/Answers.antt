-- The value's bit is looked up in its entry; past the table there is none, and no slot is free, as the definition has it.
use native.Mathlib.Omega.{arith}
use Rattle.std.proofs.Common.{rules}
use borrow.Author.Tests.{tests}
use Rattle.slots.proofs.Bits.{free_entry}
use Rattle.slots.proofs.is_free.Goals as goal

pub returns : goal.returns
returns c =
    let found = c.get.ensures.lookup in
    free_entry c.args.table.now _ _ _ _ c.place_of.ensures found.3 (λ d. found.4 (omega arith) d) c.is_some_and.ensures (λ x q. search (rules, tests))
