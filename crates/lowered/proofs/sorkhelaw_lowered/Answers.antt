-- The number is 0 only if all lengths are right and no check refuses: the tables are then what lowering asks. Their fronts, emptied, leave zeros.
use Rattle.lowered.proofs.Whole.{whole}
use Rattle.lowered.proofs.Clearing.{reaches}
use Rattle.lowered.proofs.Handing.{passes}
use Rattle.tables.specs.Tables.{tables_of}
use Rattle.lowered.proofs.sorkhelaw_lowered.Goals as goal

pub lower_passed-r-requires : goal.lower_passed-r-requires
lower_passed-r-requires c =
    let a = c.args in
    let z = c.clear_sheet in
    let w = c.sorkhelaw_tables-judged in
    let fit = c.low_fits in
    let first = c.first_refusal-n in
    passes a.ready fit.result a.f.now c.type_inv.f w.result first.result (tables_of a.keys.now a.numbers.now a.spare.now a.offs.now a.order.now a.starts.now a.loads.now a.live.now a.phi.now a.roots.now a.places.now a.names.now a.marks.now a.labels.now) (tables_of w.new.keys w.new.numbers w.new.spare w.new.offs w.new.order w.new.starts w.new.loads w.new.live w.new.phi w.new.roots w.new.places w.new.names w.new.marks w.new.labels)
    a.lines.now a.tokens.now a.text.now z.new.lines z.new.tokens z.new.text
    z.ensures w.ensures w.auto.numbers w.auto.labels fit.ensures first.ensures

pub clear_handed-requires : goal.clear_handed-requires
clear_handed-requires c =
    let a = c.args in
    let w = c.sorkhelaw_tables-judged in
    reaches a.f.now w.result (tables_of a.keys.now a.numbers.now a.spare.now a.offs.now a.order.now a.starts.now a.loads.now a.live.now a.phi.now a.roots.now a.places.now a.names.now a.marks.now a.labels.now) (tables_of w.new.keys w.new.numbers w.new.spare w.new.offs w.new.order w.new.starts w.new.loads w.new.live w.new.phi w.new.roots w.new.places w.new.names w.new.marks w.new.labels) w.ensures _ c.filled-k.ensures

pub returns : goal.returns
returns c =
    let a = c.args in
    let z = c.clear_sheet in
    let w = c.sorkhelaw_tables-judged in
    let fit = c.low_fits in
    let first = c.first_refusal-n in
    let b = c.lower_passed-r in
    let far = c.filled-k in
    let h = c.clear_handed in
    whole a.f.now w.result (tables_of a.keys.now a.numbers.now a.spare.now a.offs.now a.order.now a.starts.now a.loads.now a.live.now a.phi.now a.roots.now a.places.now a.names.now a.marks.now a.labels.now) (tables_of w.new.keys w.new.numbers w.new.spare w.new.offs w.new.order w.new.starts w.new.loads w.new.live w.new.phi w.new.roots w.new.places w.new.names w.new.marks w.new.labels) w.ensures far.result far.ensures
    h.new.numbers h.new.offs h.new.places h.new.names h.new.live h.new.phi h.new.roots h.new.marks h.new.labels
    a.ready fit.result first.result a.lines.now a.tokens.now a.text.now z.new.lines z.new.tokens z.new.text
    b.new.lines b.new.tokens b.new.text b.result
    z.ensures fit.ensures first.ensures b.ensures
    w.auto.labels
    h.ensures
