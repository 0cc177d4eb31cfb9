-- Where the rows' lines fit, the sheet that they make is the one written, so its buffers and counts are these, and its tests are counted.
use Rattle.structure.proofs.Sheeted.{written_whole}
use Rattle.structure.proofs.writing.write.Goals as goal

pub returns : goal.returns
returns c = let a = c.args in written_whole a.from.now a.lowered.now a.source.now a.rows.now _ _ _ _ _ _ a.kept _ _ _ c.start.ensures c.finish-out.ensures c.count_tests-tests.ensures
