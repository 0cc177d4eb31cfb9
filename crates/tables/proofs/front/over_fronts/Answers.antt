-- A sound file has at most as many places as a table, so each front is inside; what the stages leave in it, with zeros behind, is the table.
use Rattle.tables.proofs.Filling.{front_fits, front_lent, front_back}
use Rattle.tables.specs.Tables.{tables_of}
use lib.Seq.{length-take-le}
use mathlib.Core.Path.{sym}
use Rattle.tables.proofs.front.over_fronts.Goals as goal

pub slice_bounds-analyse-end : goal.slice_bounds-analyse-end
slice_bounds-analyse-end c = front_fits _ _ _ c.places_of-n.ensures c.requires.sound c.requires.blank.unvalued.no_keys

pub slice_bounds-analyse-end-2 : goal.slice_bounds-analyse-end-2
slice_bounds-analyse-end-2 c = sym (length-take-le c.places_of-n.result.total c.args.keys.now (front_fits _ _ _ c.places_of-n.ensures c.requires.sound c.requires.blank.unvalued.no_keys))

pub slice_bounds-analyse-end-3 : goal.slice_bounds-analyse-end-3
slice_bounds-analyse-end-3 c = front_fits _ _ _ c.places_of-n.ensures c.requires.sound c.requires.blank.unvalued.no_numbers

pub slice_bounds-analyse-end-4 : goal.slice_bounds-analyse-end-4
slice_bounds-analyse-end-4 c = sym (length-take-le c.places_of-n.result.total c.args.numbers.now (front_fits _ _ _ c.places_of-n.ensures c.requires.sound c.requires.blank.unvalued.no_numbers))

pub slice_bounds-analyse-end-5 : goal.slice_bounds-analyse-end-5
slice_bounds-analyse-end-5 c = front_fits _ _ _ c.places_of-n.ensures c.requires.sound c.requires.blank.unread.no_spare

pub slice_bounds-analyse-end-6 : goal.slice_bounds-analyse-end-6
slice_bounds-analyse-end-6 c = sym (length-take-le c.places_of-n.result.total c.args.spare.now (front_fits _ _ _ c.places_of-n.ensures c.requires.sound c.requires.blank.unread.no_spare))

pub slice_bounds-analyse-end-7 : goal.slice_bounds-analyse-end-7
slice_bounds-analyse-end-7 c = front_fits _ _ _ c.places_of-n.ensures c.requires.sound c.requires.blank.unvalued.no_offs

pub slice_bounds-analyse-end-8 : goal.slice_bounds-analyse-end-8
slice_bounds-analyse-end-8 c = sym (length-take-le c.places_of-n.result.total c.args.offs.now (front_fits _ _ _ c.places_of-n.ensures c.requires.sound c.requires.blank.unvalued.no_offs))

pub slice_bounds-analyse-end-9 : goal.slice_bounds-analyse-end-9
slice_bounds-analyse-end-9 c = front_fits _ _ _ c.places_of-n.ensures c.requires.sound c.requires.blank.unread.no_live

pub slice_bounds-analyse-end-10 : goal.slice_bounds-analyse-end-10
slice_bounds-analyse-end-10 c = sym (length-take-le c.places_of-n.result.total c.args.live.now (front_fits _ _ _ c.places_of-n.ensures c.requires.sound c.requires.blank.unread.no_live))

pub slice_bounds-analyse-end-11 : goal.slice_bounds-analyse-end-11
slice_bounds-analyse-end-11 c = front_fits _ _ _ c.places_of-n.ensures c.requires.sound c.requires.blank.unread.no_phi

pub slice_bounds-analyse-end-12 : goal.slice_bounds-analyse-end-12
slice_bounds-analyse-end-12 c = sym (length-take-le c.places_of-n.result.total c.args.phi.now (front_fits _ _ _ c.places_of-n.ensures c.requires.sound c.requires.blank.unread.no_phi))

pub slice_bounds-analyse-end-13 : goal.slice_bounds-analyse-end-13
slice_bounds-analyse-end-13 c = front_fits _ _ _ c.places_of-n.ensures c.requires.sound c.requires.blank.unnamed.no_roots

pub slice_bounds-analyse-end-14 : goal.slice_bounds-analyse-end-14
slice_bounds-analyse-end-14 c = sym (length-take-le c.places_of-n.result.total c.args.roots.now (front_fits _ _ _ c.places_of-n.ensures c.requires.sound c.requires.blank.unnamed.no_roots))

pub slice_bounds-analyse-end-15 : goal.slice_bounds-analyse-end-15
slice_bounds-analyse-end-15 c = front_fits _ _ _ c.places_of-n.ensures c.requires.sound c.requires.blank.unnamed.no_places

pub slice_bounds-analyse-end-16 : goal.slice_bounds-analyse-end-16
slice_bounds-analyse-end-16 c = sym (length-take-le c.places_of-n.result.total c.args.places.now (front_fits _ _ _ c.places_of-n.ensures c.requires.sound c.requires.blank.unnamed.no_places))

pub slice_bounds-analyse-end-17 : goal.slice_bounds-analyse-end-17
slice_bounds-analyse-end-17 c = front_fits _ _ _ c.places_of-n.ensures c.requires.sound c.requires.blank.unnamed.no_names

pub slice_bounds-analyse-end-18 : goal.slice_bounds-analyse-end-18
slice_bounds-analyse-end-18 c = sym (length-take-le c.places_of-n.result.total c.args.names.now (front_fits _ _ _ c.places_of-n.ensures c.requires.sound c.requires.blank.unnamed.no_names))

pub slice_bounds-analyse-end-19 : goal.slice_bounds-analyse-end-19
slice_bounds-analyse-end-19 c = front_fits _ _ _ c.places_of-n.ensures c.requires.sound c.requires.blank.unmarked.no_marks

pub slice_bounds-analyse-end-20 : goal.slice_bounds-analyse-end-20
slice_bounds-analyse-end-20 c = sym (length-take-le c.places_of-n.result.total c.args.marks.now (front_fits _ _ _ c.places_of-n.ensures c.requires.sound c.requires.blank.unmarked.no_marks))

pub analyse-requires : goal.analyse-requires
analyse-requires c = let pre = c.requires in
    let given = c.args in
    record { sound = pre.sound; blank = front_lent _ pre.sound (tables_of given.keys.now given.numbers.now given.spare.now given.offs.now given.order.now given.starts.now given.loads.now given.live.now given.phi.now given.roots.now given.places.now given.names.now given.marks.now given.labels.now) pre.blank _ c.places_of-n.ensures }

pub returns : goal.returns
returns c =
    let pre = c.requires in
    let given = c.args in
    let analyse = c.analyse in
    front_back _ pre.sound (tables_of given.keys.now given.numbers.now given.spare.now given.offs.now given.order.now given.starts.now given.loads.now given.live.now given.phi.now given.roots.now given.places.now given.names.now given.marks.now given.labels.now) pre.blank _ c.places_of-n.ensures c.type_inv.f _ (tables_of analyse.new.keys analyse.new.numbers analyse.new.spare analyse.new.offs analyse.new.order analyse.new.starts analyse.new.loads analyse.new.live analyse.new.phi analyse.new.roots analyse.new.places analyse.new.names analyse.new.marks analyse.new.labels) analyse.ensures
