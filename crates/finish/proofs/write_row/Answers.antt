-- The kind's tokens of the row's lowered line, ended with the row's indent and address, are the row's line; the promise on its head is passed on.
use Rattle.finish.proofs.Written.{row_written, row_headed}
use Rattle.finish.proofs.write_row.Goals as goal

pub put_row-out-requires : goal.put_row-out-requires
put_row-out-requires c = let a = c.args in row_headed a.from.now a.lowered.now a.source.now a.w _ _ _ _ c.origin_of-i.ensures c.kind_of-kind.ensures c.first_of-a.ensures c.count_of-n.ensures c.requires

pub returns : goal.returns
returns c = let a = c.args in row_written a.from.now a.lowered.now a.source.now a.w _ _ _ _ _ _ _ _ _ _ _ c.origin_of-i.ensures c.kind_of-kind.ensures c.first_of-a.ensures c.count_of-n.ensures c.put_row-out.ensures c.row_indent-indent.ensures c.row_address-at.ensures c.end_line.ensures
