-- The place read is a + k or one that reads the same, so the end that is read is the same.
use Rattle.clips.proofs.Clips.{end_same}
use Rattle.clips.proofs.clip.token_end.Goals as goal

pub returns : goal.returns
returns c = end_same _ _ _ c.place.ensures _ c.end_at.ensures
