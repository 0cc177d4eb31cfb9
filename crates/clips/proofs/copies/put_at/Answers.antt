-- Kind, start and end are read at a place that reads as a + k does, so the range put with that kind is the token at a + k.
use Rattle.clips.proofs.Emits.{put_token}
use Rattle.clips.proofs.copies.put_at.Goals as goal

pub returns : goal.returns
returns c = put_token _ _ _ _ _ _ _ _ _ c.place-j.ensures c.kind_at-kind.ensures c.start_at-from.ensures c.end_at-to.ensures c.put_between.ensures
