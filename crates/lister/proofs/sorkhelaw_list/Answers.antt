-- Lowering refuses, or its lines and zeros are what structuring asks for; the two answers make the result, and all scratch ends as zeros.
use Rattle.lister.proofs.Whole.{lowers, lists}
use Rattle.tables.specs.Tables.{tables_of}
use Rattle.lister.proofs.sorkhelaw_list.Goals as goal

pub structured-a-requires : goal.structured-a-requires
structured-a-requires c =
    let a = c.args in
    let low = c.sorkhelaw_lowered-low in
    let blank = c.clear_sheet in
    lowers a.f.now c.type_inv.f a.lines.now a.tokens.now a.text.now blank.new.lines blank.new.tokens blank.new.text blank.ensures _ c.fits-ready.ensures
    (tables_of a.keys.now a.numbers.now a.spare.now a.offs.now a.order.now a.starts.now a.loads.now a.live.now a.phi.now a.roots.now a.places.now a.names.now a.marks.now a.labels.now)
    (tables_of low.new.keys low.new.numbers low.new.spare low.new.offs low.new.order low.new.starts low.new.loads low.new.live low.new.phi low.new.roots low.new.places low.new.names low.new.marks low.new.labels)
    a.low_lines.now a.low_tokens.now a.low_text.now _ low.new.lines low.new.tokens low.new.text low.ensures

pub returns : goal.returns
returns c =
    let a = c.args in
    let low = c.sorkhelaw_lowered-low in
    let blank = c.clear_sheet in
    let done = c.structured-a in
    let wiped = c.clear_sheet-2 in
    lists a.f.now c.type_inv.f a.lines.now a.tokens.now a.text.now blank.new.lines blank.new.tokens blank.new.text blank.ensures _ c.fits-ready.ensures
    (tables_of a.keys.now a.numbers.now a.spare.now a.offs.now a.order.now a.starts.now a.loads.now a.live.now a.phi.now a.roots.now a.places.now a.names.now a.marks.now a.labels.now)
    (tables_of low.new.keys low.new.numbers low.new.spare low.new.offs low.new.order low.new.starts low.new.loads low.new.live low.new.phi low.new.roots low.new.places low.new.names low.new.marks low.new.labels)
    a.low_lines.now a.low_tokens.now a.low_text.now _ low.new.lines low.new.tokens low.new.text low.ensures
    _ done.new.lines done.new.tokens done.new.text done.new.rows done.new.spans wiped.new.lines wiped.new.tokens wiped.new.text
    done.ensures wiped.ensures low.auto.lines low.auto.tokens low.auto.text
