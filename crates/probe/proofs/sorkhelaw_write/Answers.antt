-- The writer leaves the text of the piece that is chosen or finds no room; its answer, counted, is the number asked for.
use Rattle.probe.specs.Chosen.{piece_of}
use Rattle.probe.proofs.Laws.{counted_piece}
use Rattle.probe.proofs.sorkhelaw_write.Goals as goal

pub returns : goal.returns
returns c =
    let given = c.args in
    counted_piece given.f.now c.piece_of.result (piece_of given.which given.a given.b given.c) c.write.ensures c.piece_of.ensures c.count_of.ensures
