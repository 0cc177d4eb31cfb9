-- The part filled with zeros, with what stands before it and behind it.
use Rattle.outline.proofs.Moves.{cleared_part}
use Rattle.outline.proofs.forming.clear.Goals as goal

pub returns : goal.returns
returns c = let a = c.args in cleared_part a.s.now _ a.a a.b c.requires.0 c.requires.1 (c.fill.ensures.after (λ y e. e))
