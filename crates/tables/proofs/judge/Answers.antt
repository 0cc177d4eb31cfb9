-- A wrong length is 1, and a check that refuses leaves zeros; else the file is sound and the tables are blank, as the stages ask.
use mathlib.Core.Path.{ap}
use mathlib.Core.Bool.{not}
use Rattle.tables.proofs.Filling.{unlent, stopped, passes, through}
use Rattle.tables.specs.Tables.{tables_of}
use Rattle.tables.proofs.judge.Goals as goal

pub returns-then-not-are_long : goal.returns-then-not-are_long
returns-then-not-are_long c =
    let given = c.args in
    unlent given.f.now (tables_of given.keys.now given.numbers.now given.spare.now given.offs.now given.order.now given.starts.now given.loads.now given.live.now given.phi.now given.roots.now given.places.now given.names.now given.marks.now given.labels.now) c.requires _ c.are_long.ensures (ap not c.if-not-are_long.true)

pub returns-then-n-ne0 : goal.returns-then-n-ne0
returns-then-n-ne0 c =
    let given = c.args in
    stopped given.f.now (tables_of given.keys.now given.numbers.now given.spare.now given.offs.now given.order.now given.starts.now given.loads.now given.live.now given.phi.now given.roots.now given.places.now given.names.now given.marks.now given.labels.now) c.requires _ c.are_long.ensures (ap not c.if-not-are_long.false) _ _ _ c.check_file.ensures c.number_of-n.ensures c.if-n-ne0.true

pub over_fronts-requires : goal.over_fronts-requires
over_fronts-requires c =
    let given = c.args in
    let q = passes given.f.now (tables_of given.keys.now given.numbers.now given.spare.now given.offs.now given.order.now given.starts.now given.loads.now given.live.now given.phi.now given.roots.now given.places.now given.names.now given.marks.now given.labels.now) c.requires _ c.are_long.ensures (ap not c.if-not-are_long.false) _ _ _ c.check_file.ensures c.number_of-n.ensures c.if-n-ne0.false in
    record { sound = q.0; blank = q.1 }

pub returns : goal.returns
returns c =
    let given = c.args in
    let over_fronts = c.over_fronts in
    through given.f.now (tables_of given.keys.now given.numbers.now given.spare.now given.offs.now given.order.now given.starts.now given.loads.now given.live.now given.phi.now given.roots.now given.places.now given.names.now given.marks.now given.labels.now) c.requires _ c.are_long.ensures (ap not c.if-not-are_long.false) _ _ _ c.check_file.ensures c.number_of-n.ensures _ (tables_of over_fronts.new.keys over_fronts.new.numbers over_fronts.new.spare over_fronts.new.offs over_fronts.new.order over_fronts.new.starts over_fronts.new.loads over_fronts.new.live over_fronts.new.phi over_fronts.new.roots over_fronts.new.places over_fronts.new.names over_fronts.new.marks over_fronts.new.labels) c.if-n-ne0.false over_fronts.ensures
