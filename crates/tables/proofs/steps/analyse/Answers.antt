-- Each stage gets what the one before left; where a sum is outside the tables of values are emptied and all are zeros, else only the keys are.
use Rattle.tables.proofs.Filling.{beyond, inside, wiped, staged}
use Rattle.tables.proofs.Staging.{unnumbered, unread_still, grounded, all_keys}
use Rattle.tables.specs.Tables.{tables_of}
use Rattle.tables.proofs.steps.analyse.Goals as goal

pub number_values-requires : goal.number_values-requires
number_values-requires c = unnumbered _ _ _ _ _ _ _ _ _ _ c.requires.sound c.requires.blank.unvalued c.requires.blank.unread

pub stack-requires : goal.stack-requires
stack-requires c = let pre = c.requires in
    let number_values = c.number_values in
    record { grounded = grounded _ _ _ _ pre.sound pre.blank.unvalued.no_keys pre.blank.unvalued.no_numbers number_values.ensures.numbers number_values.auto.numbers; keys_value = all_keys _ _ _ pre.blank.unvalued.no_keys number_values.ensures.keys; offs_value = pre.blank.unvalued.no_offs }

pub returns-then-stack : goal.returns-then-stack
returns-then-stack c =
    let given = c.args in
    let pre = c.requires in
    let number_values = c.number_values in
    let stack = c.stack in
    let clear_numbers = c.clear_numbers in
    beyond _ _ (tables_of clear_numbers.new.keys clear_numbers.new.numbers number_values.new.next clear_numbers.new.offs number_values.new.heads given.starts.now given.loads.now given.live.now given.phi.now given.roots.now given.places.now given.names.now given.marks.now given.labels.now) _ stack.ensures.says c.if-stack.true (wiped _ (tables_of given.keys.now given.numbers.now given.spare.now given.offs.now given.order.now given.starts.now given.loads.now given.live.now given.phi.now given.roots.now given.places.now given.names.now given.marks.now given.labels.now) number_values.new.keys number_values.new.numbers stack.new.offs clear_numbers.new.keys clear_numbers.new.numbers number_values.new.next clear_numbers.new.offs number_values.new.heads pre.blank number_values.auto.keys number_values.auto.numbers stack.auto.offs (unread_still _ _ _ _ _ _ _ _ _ pre.blank.unread number_values.auto.heads number_values.ensures.no_heads number_values.auto.next number_values.ensures.no_next) clear_numbers.ensures)

pub read_all-requires : goal.read_all-requires
read_all-requires c = let pre = c.requires in
    let number_values = c.number_values in
    record { grounded = grounded _ _ _ _ pre.sound pre.blank.unvalued.no_keys pre.blank.unvalued.no_numbers number_values.ensures.numbers number_values.auto.numbers; keys_value = all_keys _ _ _ pre.blank.unvalued.no_keys number_values.ensures.keys; stacked = c.stack.ensures.offs; unread = unread_still _ _ _ _ _ _ _ _ _ pre.blank.unread number_values.auto.heads number_values.ensures.no_heads number_values.auto.next number_values.ensures.no_next; unnamed = pre.blank.unnamed; unmarked = pre.blank.unmarked }

pub returns : goal.returns
returns c =
    let given = c.args in
    let pre = c.requires in
    let number_values = c.number_values in
    let stack = c.stack in
    let read_all = c.read_all in
    let clear = c.clear in
    inside _ _ (tables_of clear.new.table number_values.new.numbers read_all.new.spare stack.new.offs read_all.new.order read_all.new.starts read_all.new.loads read_all.new.live read_all.new.phi read_all.new.roots read_all.new.places read_all.new.names read_all.new.marks read_all.new.labels) _ stack.ensures.says c.if-stack.false (staged _ (tables_of given.keys.now given.numbers.now given.spare.now given.offs.now given.order.now given.starts.now given.loads.now given.live.now given.phi.now given.roots.now given.places.now given.names.now given.marks.now given.labels.now) (tables_of clear.new.table number_values.new.numbers read_all.new.spare stack.new.offs read_all.new.order read_all.new.starts read_all.new.loads read_all.new.live read_all.new.phi read_all.new.roots read_all.new.places read_all.new.names read_all.new.marks read_all.new.labels) number_values.new.keys pre.blank number_values.auto.keys clear.ensures (grounded _ _ _ _ pre.sound pre.blank.unvalued.no_keys pre.blank.unvalued.no_numbers number_values.ensures.numbers number_values.auto.numbers) stack.ensures.offs read_all.ensures.counted read_all.ensures.called)
