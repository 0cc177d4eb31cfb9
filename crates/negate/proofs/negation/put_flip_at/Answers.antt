-- At place p the flipped token is put, at every other the token as it is, as the definition chooses by place.
use Rattle.negate.proofs.Negating.{at_place, at_other}
use Rattle.negate.proofs.negation.put_flip_at.Goals as goal

pub returns-then-k-p : goal.returns-then-k-p
returns-then-k-p c = at_place _ _ _ _ _ c.if-k-p.true c.put_flip.ensures

pub returns : goal.returns
returns c = at_other _ _ _ _ _ c.if-k-p.false c.put_clip_at.ensures
