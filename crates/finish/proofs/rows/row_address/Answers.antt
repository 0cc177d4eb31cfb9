-- A closing row has no address, any other that of the lowered line it comes from.
use Rattle.finish.proofs.Written.{row_closes, row_stands}
use Rattle.finish.proofs.rows.row_address.Goals as goal

pub returns-then-kind_of-eq-CLOSE : goal.returns-then-kind_of-eq-CLOSE
returns-then-kind_of-eq-CLOSE c = row_closes _ _ _ c.kind_of.ensures c.if-kind_of-eq-CLOSE.true

pub returns : goal.returns
returns c = row_stands _ _ _ c.kind_of.ensures _ _ c.if-kind_of-eq-CLOSE.false c.origin_of.ensures c.address_at.ensures
