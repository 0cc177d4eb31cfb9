-- Trimming the first k bytes gives what trimming all gives: a last s goes, so k falls, and any other byte, or 0, ends it.
use Rattle.render.proofs.Trimming.{Left}
use Rattle.render.proofs.operators.trimmed.Given as goal

abbrev pub invariant-loop-k : goal.invariant-loop-k
invariant-loop-k l = Left l.f l.from l.n l.k
