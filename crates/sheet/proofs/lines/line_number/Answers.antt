-- Where all numbers end before line i there is none, which counts as 0; else the place 5i + k is small enough to be summed, and is read.
use Rattle.sheet.proofs.Reading.{line_out}
use Rattle.sheet.proofs.lines.line_number.Goals as goal

pub returns-then-lines-i : goal.returns-then-lines-i
returns-then-lines-i c = line_out _ _ _ c.if-lines-i.true
