-- The hits are the definition's marks, and the clip's range is its text, so the same test decides; the one marked token is the one flipped.
use mathlib.Core.Path.{sym}
use Rattle.room.proofs.Laws.{pieces_are}
use Rattle.negate.proofs.Marks.{negate_flips, negate_wraps}
use Rattle.negate.proofs.negation.put_negated.Goals as goal

pub look_over-l-requires : goal.look_over-l-requires
look_over-l-requires c = c.requires

pub returns-then-flips : goal.returns-then-flips
returns-then-flips c = let a = c.args in pieces_are _ _ _ _ c.put_flipped.ensures (sym (negate_flips a.lowered.now a.source.now a.c _ _ c.requires c.look_over-l.ensures c.flips.ensures c.if-flips.true))

pub returns : goal.returns
returns c = let a = c.args in pieces_are _ _ _ _ c.put_wrapped.ensures (sym (negate_wraps a.lowered.now a.source.now a.c _ _ c.requires c.look_over-l.ensures c.flips.ensures c.if-flips.false))
