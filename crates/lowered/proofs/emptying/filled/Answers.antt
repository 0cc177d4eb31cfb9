-- A refusal leaves nothing filled; on 0 it is the total of the file's places: the definition's two cases.
use Rattle.lowered.proofs.Clearing.{none_filled, all_filled}
use Rattle.lowered.proofs.emptying.filled.Goals as goal

pub returns-then-n-ne0 : goal.returns-then-n-ne0
returns-then-n-ne0 c = none_filled _ _ c.if-n-ne0.true

pub returns : goal.returns
returns c = all_filled _ _ _ c.if-n-ne0.false c.places_of.ensures
