-- Version 0 or a slot that is not free leaves the table as it is; a free slot lies in the table, and its bit is set.
use Prim.Native.Nat.{◌<◌}
use mathlib.Core.Bool.{not}
use mathlib.Core.Path.{ap, sym, ◌∙◌}
use native.Mathlib.Omega.{arith}
use lib.ListN.{length}
use Rattle.std.proofs.lemmas.Bool.Decides.{nat_tests}
use Rattle.slots.specs.Slots.{taken}
use Rattle.slots.proofs.Taking.{take_slot}
use Rattle.slots.proofs.Bits.{free_inside}
use Rattle.slots.proofs.take.Goals as goal
use Rattle.slots.proofs.take.Goals.{After-place_of-k}

-- the slot stands in the table, since it is free
known : (c : After-place_of-k) → c.place_of-k.result < length c.args.table.now
known c = free_inside _ _ _ c.place_of-k.ensures (sym c.is_free.ensures ∙ c.if-not-is_free.false)

pub returns-then-v-eq0 : goal.returns-then-v-eq0
unfolding taken
returns-then-v-eq0 c = grind (arith, nat_tests)

pub offset_bounds-table-k : goal.offset_bounds-table-k
offset_bounds-table-k c = omega (arith, known (goal.at.offset_bounds-table-k c).After-place_of-k)

pub bounds-table-k : goal.bounds-table-k
bounds-table-k c = known (goal.at.bounds-table-k c).After-place_of-k

pub bounds-table-k-2 : goal.bounds-table-k-2
bounds-table-k-2 c = known (goal.at.bounds-table-k-2 c).After-place_of-k

pub returns : goal.returns
returns c = take_slot _ _ c.if-v-eq0.false _ c.is_free.ensures _ _ (ap not c.if-not-is_free.false) c.place_of-k.ensures c.mask_of.ensures
