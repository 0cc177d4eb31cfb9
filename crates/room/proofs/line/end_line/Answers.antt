-- A full room stays as it is; with room for five more numbers they are the line's row, and without it the room is full from here on.
use Rattle.room.proofs.Lines.{end_full, end_stops, end_fits}
use native.Mathlib.Omega.{arith}
use Rattle.room.proofs.line.end_line.Goals as goal

pub returns-then-out : goal.returns-then-out
returns-then-out c = end_full _ _ _ _ c.if-out.true

pub returns-then-n-lines : goal.returns-then-n-lines
returns-then-n-lines c = end_fits _ c.args.out _ _ _ _ _ _ c.if-out.false (omega arith) c.is_some.ensures c.from.ensures c.unwrap_or.ensures c.copy_from_slice.ensures.after

pub returns : goal.returns
returns c = end_stops _ _ _ _ _ c.if-out.false (omega arith) c.stop.ensures
