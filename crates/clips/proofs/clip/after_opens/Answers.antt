-- Only ` (` stand between `from` and i, so trimming from i on is trimming all; to - i falls, since a ` (` that is found ends at `to` or before.
use Rattle.clips.proofs.Ranges.{opens_none, opens_room, opens_turn, opens_end}
use mathlib.Core.Path.{sym, ◌∙◌}
use native.Mathlib.Omega.{arith}
use Rattle.clips.proofs.clip.after_opens.Goals as goal

pub loop-i-init : goal.loop-i-init
loop-i-init c = opens_none _ _ _

pub overflow_add-i : goal.overflow_add-i
overflow_add-i c = let a = c.args in omega (arith, opens_room a.text.now a.from a.to c.loop-i.i (sym c.begins_between.ensures ∙ c.loop-i-test.true))

pub loop-i-smaller : goal.loop-i-smaller
loop-i-smaller c = let a = c.args in omega (arith, opens_room a.text.now a.from a.to c.loop-i.i (sym c.begins_between.ensures ∙ c.loop-i-test.true))

pub loop-i-preserved : goal.loop-i-preserved
loop-i-preserved c = let a = c.args in opens_turn a.text.now a.from a.to c.loop-i.i (sym c.begins_between.ensures ∙ c.loop-i-test.true) c.loop-i.invariant

pub returns : goal.returns
returns c = let a = c.args in opens_end a.text.now a.from a.to c.loop-i.i (sym c.begins_between.ensures ∙ c.loop-i-test.false) c.loop-i.invariant
