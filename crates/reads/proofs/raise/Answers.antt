-- Below the greatest number the entry is one more; the greatest stays, as the definition has it.
use Rattle.reads.proofs.Visits.{raise_in, raise_full}
use Rattle.reads.proofs.raise.Goals as goal

pub returns-then-x-lt4294967295 : goal.returns-then-x-lt4294967295
returns-then-x-lt4294967295 c = raise_in _ _ _ _ c.get-x.ensures c.if-x-lt4294967295.true c.put.ensures

pub returns-else-x-lt4294967295 : goal.returns-else-x-lt4294967295
returns-else-x-lt4294967295 c = raise_full _ _ _ c.get-x.ensures c.if-x-lt4294967295.false
