-- Each of the fourteen tables is emptied by one of the calls, and together they are the record of zeros.
use Rattle.tables.proofs.Emptying.{all_clear}
use Rattle.tables.specs.Tables.{tables_of}
use Rattle.tables.proofs.clearing.clear_all.Goals as goal

pub returns : goal.returns
returns c =
    let given = c.args in
    let clear_numbers = c.clear_numbers in
    let clear_four = c.clear_four in
    let clear_four2 = c.clear_four-2 in
    let names = c.clear in
    let marks = c.clear-2 in
    let labels = c.clear-3 in
    all_clear (tables_of given.keys.now given.numbers.now given.spare.now given.offs.now given.order.now given.starts.now given.loads.now given.live.now given.phi.now given.roots.now given.places.now given.names.now given.marks.now given.labels.now) (tables_of clear_numbers.new.keys clear_numbers.new.numbers clear_four.new.d clear_numbers.new.offs clear_four.new.a clear_four.new.b clear_four.new.c clear_four2.new.a clear_four2.new.b clear_four2.new.c clear_four2.new.d names.new.table marks.new.table labels.new.table) clear_numbers.ensures clear_four.ensures clear_four2.ensures (names.ensures, marks.ensures, labels.ensures)
