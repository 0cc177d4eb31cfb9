use mathlib.Core.Logic.{inl, inr}
use Rattle.uses.proofs.Filling.{put_none, put_use, put_bin, put_one, put_other, falls_to}
use Rattle.uses.proofs.order.+write_uses.Goals as goal

pub returns-then-x-b : goal.returns-then-x-b
returns-then-x-b t c = put_none _ _ _ _ c.if-x-b.true

pub returns-then-t-eq-USE : goal.returns-then-t-eq-USE
returns-then-t-eq-USE t c = put_use _ _ _ _ _ c.expr_word-t.ensures c.if-x-b.false _ c.if-t-eq-USE.true c.write.ensures

pub write_uses-m-requires : goal.write_uses-m-requires
write_uses-m-requires t c = (falls_to _ _ _ c.decreases c.if-x-b.false, tt)

pub write_uses-requires : goal.write_uses-requires
write_uses-requires t c = (falls_to _ _ _ c.decreases c.if-x-b.false, tt)

pub returns-then-t-eq-BIN : goal.returns-then-t-eq-BIN
returns-then-t-eq-BIN t c = put_bin _ _ _ _ _ c.expr_word-t.ensures c.if-x-b.false _ _ _ _ c.if-t-eq-BIN.true c.expr_word.ensures c.expr_word-then-t-eq-BIN.ensures c.write_uses-m.ensures c.write_uses.ensures

pub write_uses-requires-then-t-eq-UN : goal.write_uses-requires-then-t-eq-UN
write_uses-requires-then-t-eq-UN t c = (falls_to _ _ _ c.decreases c.if-x-b.false, tt)

pub returns-then-t-eq-UN : goal.returns-then-t-eq-UN
returns-then-t-eq-UN t c = put_one _ _ _ _ _ c.expr_word-t.ensures c.if-x-b.false _ _ (inl (c.if-t-eq-UN.true, c.expr_word-then-t-eq-UN.ensures)) c.write_uses-then-t-eq-UN.ensures

pub write_uses-requires-then-t-eq-LOAD : goal.write_uses-requires-then-t-eq-LOAD
write_uses-requires-then-t-eq-LOAD t c = (falls_to _ _ _ c.decreases c.if-x-b.false, tt)

pub returns-then-t-eq-LOAD : goal.returns-then-t-eq-LOAD
returns-then-t-eq-LOAD t c = put_one _ _ _ _ _ c.expr_word-t.ensures c.if-x-b.false _ _ (inr (c.if-t-eq-LOAD.true, c.expr_word-then-t-eq-LOAD.ensures)) c.write_uses-then-t-eq-LOAD.ensures

pub returns : goal.returns
returns t c = put_other _ _ _ _ _ c.expr_word-t.ensures c.if-x-b.false c.if-t-eq-USE.false c.if-t-eq-BIN.false c.if-t-eq-UN.false c.if-t-eq-LOAD.false
