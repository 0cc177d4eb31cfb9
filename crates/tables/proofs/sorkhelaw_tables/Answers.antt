-- Emptied tables are their own emptied ones, which judging asks for, and as long as those lent, so what it leaves holds of those too.
use Rattle.tables.proofs.Filling.{refilled, emptied_first}
use Rattle.tables.specs.Tables.{tables_of}
use Rattle.tables.proofs.sorkhelaw_tables.Goals as goal

pub judge-requires : goal.judge-requires
judge-requires c =
    let given = c.args in
    let clear_all = c.clear_all in
    emptied_first (tables_of given.keys.now given.numbers.now given.spare.now given.offs.now given.order.now given.starts.now given.loads.now given.live.now given.phi.now given.roots.now given.places.now given.names.now given.marks.now given.labels.now) (tables_of clear_all.new.keys clear_all.new.numbers clear_all.new.spare clear_all.new.offs clear_all.new.order clear_all.new.starts clear_all.new.loads clear_all.new.live clear_all.new.phi clear_all.new.roots clear_all.new.places clear_all.new.names clear_all.new.marks clear_all.new.labels) clear_all.ensures

pub returns : goal.returns
returns c =
    let given = c.args in
    let clear_all = c.clear_all in
    let judge = c.judge in
    refilled _ _ (tables_of given.keys.now given.numbers.now given.spare.now given.offs.now given.order.now given.starts.now given.loads.now given.live.now given.phi.now given.roots.now given.places.now given.names.now given.marks.now given.labels.now) (tables_of clear_all.new.keys clear_all.new.numbers clear_all.new.spare clear_all.new.offs clear_all.new.order clear_all.new.starts clear_all.new.loads clear_all.new.live clear_all.new.phi clear_all.new.roots clear_all.new.places clear_all.new.names clear_all.new.marks clear_all.new.labels) (tables_of judge.new.keys judge.new.numbers judge.new.spare judge.new.offs judge.new.order judge.new.starts judge.new.loads judge.new.live judge.new.phi judge.new.roots judge.new.places judge.new.names judge.new.marks judge.new.labels) clear_all.ensures judge.ensures
