-- The signs and the negated condition compose, and merging changes nothing seen; as the line's ends rise, the clip is one to be negated.
use Rattle.room.proofs.Laws.{next, more, done, merged, pieces_are}
use Rattle.definition.specs.Negate.{negate, open_tokens}
use mathlib.Core.Path.{sym, ap, ◌∙◌}
use Rattle.negate.proofs.heads.put_open.Goals as goal

pub put_negated-out-requires : goal.put_negated-out-requires
put_negated-out-requires c = c.condition-c.ensures.1 c.requires

pub returns : goal.returns
unfolding open_tokens
returns c = next _ _ _ _ c.put-out.ensures (next _ _ _ _ c.put-out-2.ensures (more _ _ _ _ _ (pieces_are _ _ _ _ c.put_negated-out.ensures (ap negate c.condition-c.ensures.0)) (next _ _ _ _ c.put.ensures (done _)))) ∙ sym (merged _ _)
