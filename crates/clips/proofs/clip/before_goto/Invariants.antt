-- The count is k and what stands before `goto` from place k on; at a `goto`, or at the end, the latter is nothing.
use Rattle.sheet.specs.Buffers.{tokens_in}
use Rattle.definition.specs.Negate.{before_goto}
use lib.ListN.{length}
use Prim.Native.Nat.{◌+◌, ◌-◌}
use mathlib.Core.Path.{◌≡◌}
use Rattle.clips.proofs.clip.before_goto.Given as goal

abbrev pub invariant-loop-k : goal.invariant-loop-k
invariant-loop-k l = (length (before_goto (tokens_in l.tokens l.text l.a l.n)) ≡ l.k + length (before_goto (tokens_in l.tokens l.text (l.a + l.k) (l.n - l.k))))
