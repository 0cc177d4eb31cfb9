-- Where the range is empty the token is left out, in code and definition alike; else the range is put with the token's kind.
use Rattle.clips.proofs.Emits.{clip_none, clip_some}
use Rattle.clips.proofs.Clips.{kind_same}
use Rattle.clips.proofs.copies.put_clip_at.Goals as goal

pub returns-then-none_between : goal.returns-then-none_between
returns-then-none_between c = clip_none _ _ _ _ _ _ _ _ c.clip_from-from.ensures c.clip_to-to.ensures c.none_between.ensures c.if-none_between.true

pub returns : goal.returns
returns c = clip_some _ _ _ _ _ _ _ _ _ _ c.clip_from-from.ensures c.clip_to-to.ensures c.none_between.ensures c.if-none_between.false (kind_same _ _ _ c.place.ensures _ c.kind_at-kind.ensures) c.put_between.ensures
