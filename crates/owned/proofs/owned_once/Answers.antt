-- From zeros the roots and then the children are tallied, which are all mentions: an entry of 1 says one. The table ends as zeros.
use native.Mathlib.Omega.{arith}
use Rattle.owned.proofs.Once.{once_answer}
use Rattle.owned.proofs.owned_once.Goals as goal

pub returns : goal.returns
returns c = once_answer _ _ _ _ _ _ _ _ c.clear.ensures c.tally_statements.ensures c.tally_expressions.ensures c.size_of.ensures (omega (arith, c.requires.expressions_in_bounds, c.size_of.ensures)) c.all_once-once.ensures c.clear-2.ensures
