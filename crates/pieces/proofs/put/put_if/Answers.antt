-- Where the flag is set the one piece is put, and else nothing: the two cases of the definition.
use Rattle.room.specs.Room.{emit_all}
use Rattle.pieces.specs.Spelled.{piece_if}
use Rattle.pieces.proofs.put.put_if.Goals as goal

pub returns-then-there : goal.returns-then-there
unfolding piece_if emit_all
returns-then-there c = rw c.if-there.true c.put.ensures

pub returns : goal.returns
unfolding piece_if emit_all
returns c = rw c.if-there.false
