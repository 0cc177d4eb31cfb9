-- Flipping neither empties a text nor fills an empty one, so the range as it was tells whether the flipped token is left out.
use Rattle.negate.proofs.Negating.{flip_nothing, flip_some}
use Rattle.negate.proofs.negation.put_flip.Goals as goal

pub returns-then-none_between : goal.returns-then-none_between
returns-then-none_between c = flip_nothing _ _ _ _ _ _ _ c.clip_from-from.ensures c.clip_to-to.ensures c.none_between.ensures _ c.if-none_between.true

pub returns : goal.returns
returns c = flip_some _ _ _ _ _ _ _ c.clip_from-from.ensures c.clip_to-to.ensures c.none_between.ensures _ _ c.if-none_between.false c.put_opposite.ensures
