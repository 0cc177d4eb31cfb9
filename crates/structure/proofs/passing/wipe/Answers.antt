-- Each table is filled with zeros over its whole length.
use Rattle.structure.proofs.passing.wipe.Goals as goal

pub returns : goal.returns
returns c = (c.fill.ensures.after (λ y e. e), c.fill-2.ensures.after (λ y e. e))
