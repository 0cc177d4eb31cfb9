-- With fewer than two bytes in the text's part of the range there is nothing to cut; else its last two bytes decide whether `) ` goes.
use Rattle.clips.proofs.Ranges.{close_short, close_not, close_cut}
use mathlib.Core.Path.{sym, ◌∙◌}
use native.Mathlib.Omega.{arith}
use Rattle.clips.proofs.clip.before_close.Goals as goal

pub returns-then-saturating_sub-lt2 : goal.returns-then-saturating_sub-lt2
returns-then-saturating_sub-lt2 c = let a = c.args in close_short a.text.now a.from a.to c.min-e.result c.min-e.ensures (omega arith)

pub returns-then-is_between : goal.returns-then-is_between
returns-then-is_between c = let a = c.args in close_cut a.text.now a.from a.to c.min-e.result c.min-e.ensures (omega arith) (sym c.is_between.ensures ∙ c.if-is_between.true)

pub returns-else-is_between : goal.returns-else-is_between
returns-else-is_between c = let a = c.args in close_not a.text.now a.from a.to c.min-e.result c.min-e.ensures (omega arith) (sym c.is_between.ensures ∙ c.if-is_between.false)
