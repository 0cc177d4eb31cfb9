-- An if's tokens' ends rise, as the caller promises.
use Rattle.finish.proofs.kinds.put_row.Goals as goal

pub put_open-requires : goal.put_open-requires
put_open-requires c = c.requires.rises c.in-5.is
