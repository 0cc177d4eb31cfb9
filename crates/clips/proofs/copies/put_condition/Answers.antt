-- The clip that is found holds the condition's tokens, so writing the clip writes the condition.
use Rattle.room.proofs.Laws.{pieces_are}
use Rattle.clips.proofs.copies.put_condition.Goals as goal

pub returns : goal.returns
returns c = pieces_are _ _ _ _ c.put_clip.ensures c.condition-c.ensures.0
