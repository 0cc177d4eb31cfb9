-- A sound room has no more tokens than numbers are lent.
use mathlib.Core.Path.{sym, ◌∙◌}
use Rattle.room.proofs.Placing.{sound_told}
use Rattle.room.proofs.place.ready.Goals as goal

pub goes_on-requires : goal.goes_on-requires
goes_on-requires c = (sound_told _ _ _ (sym c.is_sound.ensures ∙ c.if-is_sound.true)).tokens
