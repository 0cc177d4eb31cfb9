-- Inside the file the four bytes are read; outside the answer is 0, as the definition has it.
use Rattle.words.proofs.Laws.{word_out}
use lib.ListN.{length}
use native.Mathlib.Omega.{arith}
use Prim.Native.Nat.{◌≤◌}
use Rattle.words.proofs.word_at.Goals as goal

pub returns-in_default : goal.returns-in_default
returns-in_default c = word_out c.args.f.now c.args.i (omega arith)

pub returns-in_default-2 : goal.returns-in_default-2
returns-in_default-2 c = let short : 4 ≤ length c.args.f.now → ⊥ = c.in_default.ensures in word_out c.args.f.now c.args.i (omega arith)
