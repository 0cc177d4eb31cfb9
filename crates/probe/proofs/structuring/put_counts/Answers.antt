-- Fewer than six numbers stay as they are; else the six counts stand before what follows.
use Rattle.probe.proofs.Numbers.{no_counts, all_counts}
use Rattle.probe.proofs.structuring.put_counts.Goals as goal

pub returns-then-counts-lt-COUNTS : goal.returns-then-counts-lt-COUNTS
returns-then-counts-lt-COUNTS c = no_counts _ _ c.if-counts-lt-COUNTS.true

pub returns : goal.returns
returns c = all_counts _ _ c.args.c c.if-counts-lt-COUNTS.false c.copy_from_slice.ensures.after
