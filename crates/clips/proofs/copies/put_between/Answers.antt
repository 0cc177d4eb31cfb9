-- The gap is the range's length, 0 where it ends before it begins, so the part of that length is the range.
use Rattle.clips.proofs.Emits.{put_range}
use Rattle.clips.proofs.copies.put_between.Goals as goal

pub returns : goal.returns
returns c = put_range _ _ _ _ _ _ _ c.saturating_sub.ensures c.put_part.ensures
