use Rattle.definition.specs.Words.{part}
use mathlib.Core.Path.{sym, ◌∙◌}
use lib.ListN.{length-take, drop}
use Rattle.words.proofs.part_size.Goals as goal

pub returns : goal.returns
unfolding part
returns c = c.min.ensures ∙ rw c.rest.ensures (sym (length-take c.args.n (drop c.args.at c.args.f.now)))
