-- The first sign found stands in the range, and its opposite in its place is the definition's flip; with none the range is put as it is.
use Rattle.room.proofs.Laws.{next, done}
use Rattle.comparisons.proofs.Comparing.{text_some, piece_is, sign_inside, sign_flips, no_flips}
use Rattle.comparisons.proofs.signs.put_opposite.Goals as goal

pub put_replaced-requires : goal.put_replaced-requires
put_replaced-requires c = let k = c.in-Some.sign in
    record { some = rw c.text.ensures (text_some k); inside = rw c.text.ensures (sign_inside _ k c.in-Some.ensures) }

pub returns-in-Some : goal.returns-in-Some
returns-in-Some c = let k = c.in-Some.sign in
    piece_is _ _ _ _ c.put_replaced.ensures (rw (c.text.ensures, c.text-in-Some.ensures, c.opposite.ensures) (sign_flips _ k c.in-Some.ensures))

pub returns-in-None : goal.returns-in-None
returns-in-None c = piece_is _ _ _ _ (next _ _ _ _ c.put_between.ensures (done _)) (no_flips _ c.in-None.ensures)
