-- False claims nothing; true says that strict values each found a free slot, and that loose ones have other slots: each is alone.
use mathlib.Core.Path.{ap}
use mathlib.Core.Bool.{not}
use Rattle.slots.proofs.Alone.{slots_told}
use Rattle.slots.proofs.slots_tell.Goals as goal

pub returns-then-take_strict : goal.returns-then-take_strict
returns-then-take_strict c = slots_told _ _ _ _ _ c.take_strict.ensures (ap not c.if-take_strict.true) c.loose_free.ensures
