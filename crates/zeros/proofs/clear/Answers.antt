-- A fill leaves the filled number everywhere, since a copy is the number itself. The search also follows the fill of a part that is all of the table:
-- must-fail/byte_left, which fills less, is refused for the byte that it leaves.
use Rattle.std.proofs.Common.{rules}
use Rattle.std.proofs.lemmas.Grind.{common_steps}
use Rattle.zeros.proofs.clear.Goals as goal

pub returns : goal.returns
returns g c = let filled = c.fill.ensures.after (g.met.T.Zero.copies _).1 in search (rules, common_steps)
