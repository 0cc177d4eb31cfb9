-- The place tested is a + k or one that reads the same, so the token tested is the same.
use Rattle.clips.proofs.Clips.{goto_same}
use Rattle.clips.proofs.clip.is_goto.Goals as goal

pub returns : goal.returns
returns c = goto_same _ _ _ _ _ c.place.ensures c.token_is.ensures
