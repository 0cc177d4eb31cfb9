-- The definition's four cases: the class has a code, is met as its own version 0, gets the next local, or the codes have run out.
use Rattle.names.proofs.Meeting.{met_again, met_own, met_new, met_full}
use Rattle.names.proofs.key.meet.Goals as goal

pub returns-then-c-ne0 : goal.returns-then-c-ne0
returns-then-c-ne0 c = met_again _ _ _ _ _ _ _ c.get-c.ensures _ c.if-c-ne0.true c.put.ensures

pub returns-then-is_own : goal.returns-then-is_own
returns-then-is_own c = met_own _ _ _ _ _ _ _ c.get-c.ensures c.if-c-ne0.false _ c.is_own.ensures _ _ c.if-is_own.true c.note.ensures

pub returns-then-next-lt-LOCALS : goal.returns-then-next-lt-LOCALS
returns-then-next-lt-LOCALS c = met_new _ _ _ _ _ _ _ c.get-c.ensures c.if-c-ne0.false _ c.is_own.ensures _ _ c.if-is_own.false c.if-next-lt-LOCALS.true c.note-then-next-lt-LOCALS.ensures

pub returns : goal.returns
returns c = met_full _ _ _ _ _ _ _ c.get-c.ensures c.if-c-ne0.false _ c.is_own.ensures c.if-is_own.false c.if-next-lt-LOCALS.false
