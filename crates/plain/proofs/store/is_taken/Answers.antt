-- Of 32 bits and a push, it is taken exactly where a statement behind it takes pushes.
use native.Mathlib.Omega.{arith}
use Rattle.std.proofs.lemmas.Grind.{common_steps}
use Rattle.inline.specs.Placing.{behind}
use Rattle.plain.specs.Pieces.{is_taken}
use Rattle.plain.proofs.store.is_taken.Goals as goal

pub returns-then-is_pushed : goal.returns-then-is_pushed
unfolding is_taken behind
returns-then-is_pushed c = λ E. grind (arith, common_steps, c.taken_behind.ensures E)
