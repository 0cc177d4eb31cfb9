-- Without a name the piece is the raw address; with one it is that name, as the definition chooses.
use Rattle.room.proofs.Laws.{piece_as}
use Rattle.calls.proofs.Naming.{by_name, by_address}
use Rattle.calls.proofs.targets.put_outside.Goals as goal

pub returns-in-None : goal.returns-in-None
returns-in-None c = piece_as _ _ _ _ _ c.put_outward.ensures (by_address _ _ _ _ c.outside_name.ensures c.in-None.is)

pub returns-in-Some : goal.returns-in-Some
returns-in-Some c = piece_as _ _ _ _ _ c.put_name.ensures (by_name _ _ _ _ c.outside_name.ensures _ c.in-Some.is)
