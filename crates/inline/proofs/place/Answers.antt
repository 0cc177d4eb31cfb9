-- Without a single read, or without it later in the block, nothing is placed; else i + 1, the value's place, is written at its number.
use mathlib.Core.Path.{ap}
use mathlib.Core.Bool.{not}
use Rattle.inline.proofs.Adding.{step_over, step_nowhere, step_placed}
use Rattle.inline.proofs.place.Goals as goal

pub returns-then-not-read_once : goal.returns-then-not-read_once
returns-then-not-read_once c = step_over _ _ _ _ _ _ _ c.args.of.now.told c.args.of.now.bytes _ _ _ c.requires c.number_of-n.ensures _ c.read_once.ensures (ap not c.if-not-read_once.true)

pub returns-in_default : goal.returns-in_default
returns-in_default c = step_nowhere _ _ _ _ _ _ _ c.args.of.now.told c.args.of.now.bytes _ _ _ c.requires c.number_of-n.ensures _ c.read_once.ensures _ c.later_read.ensures (ap not c.if-not-read_once.false) (cc)

pub returns : goal.returns
returns c = step_placed _ _ _ _ _ _ _ c.args.of.now.told c.args.of.now.bytes _ _ _ c.requires c.number_of-n.ensures _ c.read_once.ensures _ c.later_read.ensures (ap not c.if-not-read_once.false) _ _ c.in-Some.is c.put.ensures
