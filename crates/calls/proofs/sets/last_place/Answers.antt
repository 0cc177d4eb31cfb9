use Rattle.calls.proofs.Counting.{place_start, place_here, place_next, place_none}
use Rattle.calls.proofs.sets.last_place.Goals as goal

pub loop-i-init : goal.loop-i-init
loop-i-init c = place_start _ _ _ c.size_of-i.ensures

pub returns-then-arg_at-v : goal.returns-then-arg_at-v
returns-then-arg_at-v c = place_here _ _ _ _ c.loop-i.invariant _ c.loop-i-test.true c.arg_at.ensures c.if-arg_at-v.true

pub loop-i-preserved : goal.loop-i-preserved
loop-i-preserved c = place_next _ _ _ _ c.loop-i.invariant _ c.loop-i-test.true c.arg_at.ensures c.if-arg_at-v.false

pub returns : goal.returns
returns c = place_none _ _ _ _ c.loop-i.invariant c.loop-i-test.false
