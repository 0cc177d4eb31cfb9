-- A value of RSP, one named already and one written in place leave all as it is, by the definition's three tests; any other is met.
use Rattle.names.proofs.Meeting.{key_rsp, key_named, key_placed, key_met}
use Rattle.names.proofs.key.name_key.Goals as goal

pub returns-then-v-eq-RSP : goal.returns-then-v-eq-RSP
returns-then-v-eq-RSP c = key_rsp _ _ _ _ _ _ _ _ _ c.if-v-eq-RSP.true

pub returns-then-get-ne0 : goal.returns-then-get-ne0
returns-then-get-ne0 c = key_named _ _ _ _ _ _ _ _ _ c.if-v-eq-RSP.false _ _ c.get-n.ensures c.get.ensures c.if-get-ne0.true

pub returns-then-get-ne0-2 : goal.returns-then-get-ne0-2
returns-then-get-ne0-2 c = key_placed _ _ _ _ _ _ _ _ _ c.if-v-eq-RSP.false _ _ c.get-n.ensures c.get.ensures c.if-get-ne0.false _ c.get-2.ensures c.if-get-ne0-2.true

pub returns : goal.returns
returns c = key_met _ _ _ _ _ _ _ _ _ c.if-v-eq-RSP.false _ _ c.get-n.ensures c.get.ensures c.if-get-ne0.false _ c.get-2.ensures _ _ c.if-get-ne0-2.false c.get-3.ensures c.meet.ensures
