-- Each table has n numbers, so its first n come back as zeros before the rest, which is untouched; the labels are emptied whole.
use mathlib.Core.Path.{sym}
use lib.Seq.{length-take-le}
use Rattle.lowered.proofs.Clearing.{front_gone}
use Rattle.lowered.proofs.emptying.clear_handed.Goals as goal

pub slice_bounds-clear-end : goal.slice_bounds-clear-end
slice_bounds-clear-end c = c.requires.offs

pub slice_bounds-clear-end-2 : goal.slice_bounds-clear-end-2
slice_bounds-clear-end-2 c = sym (length-take-le c.args.n c.args.offs.now c.requires.offs)

pub slice_bounds-clear_four-end : goal.slice_bounds-clear_four-end
slice_bounds-clear_four-end c = c.requires.numbers

pub slice_bounds-clear_four-end-2 : goal.slice_bounds-clear_four-end-2
slice_bounds-clear_four-end-2 c = sym (length-take-le c.args.n c.args.numbers.now c.requires.numbers)

pub slice_bounds-clear_four-end-3 : goal.slice_bounds-clear_four-end-3
slice_bounds-clear_four-end-3 c = c.requires.places

pub slice_bounds-clear_four-end-4 : goal.slice_bounds-clear_four-end-4
slice_bounds-clear_four-end-4 c = sym (length-take-le c.args.n c.args.places.now c.requires.places)

pub slice_bounds-clear_four-end-5 : goal.slice_bounds-clear_four-end-5
slice_bounds-clear_four-end-5 c = c.requires.names

pub slice_bounds-clear_four-end-6 : goal.slice_bounds-clear_four-end-6
slice_bounds-clear_four-end-6 c = sym (length-take-le c.args.n c.args.names.now c.requires.names)

pub slice_bounds-clear_four-end-7 : goal.slice_bounds-clear_four-end-7
slice_bounds-clear_four-end-7 c = c.requires.live

pub slice_bounds-clear_four-end-8 : goal.slice_bounds-clear_four-end-8
slice_bounds-clear_four-end-8 c = sym (length-take-le c.args.n c.args.live.now c.requires.live)

pub slice_bounds-clear_four-end-9 : goal.slice_bounds-clear_four-end-9
slice_bounds-clear_four-end-9 c = c.requires.phi

pub slice_bounds-clear_four-end-10 : goal.slice_bounds-clear_four-end-10
slice_bounds-clear_four-end-10 c = sym (length-take-le c.args.n c.args.phi.now c.requires.phi)

pub slice_bounds-clear_four-end-11 : goal.slice_bounds-clear_four-end-11
slice_bounds-clear_four-end-11 c = c.requires.roots

pub slice_bounds-clear_four-end-12 : goal.slice_bounds-clear_four-end-12
slice_bounds-clear_four-end-12 c = sym (length-take-le c.args.n c.args.roots.now c.requires.roots)

pub slice_bounds-clear_four-end-13 : goal.slice_bounds-clear_four-end-13
slice_bounds-clear_four-end-13 c = c.requires.marks

pub slice_bounds-clear_four-end-14 : goal.slice_bounds-clear_four-end-14
slice_bounds-clear_four-end-14 c = sym (length-take-le c.args.n c.args.marks.now c.requires.marks)

pub returns : goal.returns
returns c =
    let given = c.args in
    let pre = c.requires in
    let clear = c.clear in
    let clear_four = c.clear_four in
    let clear_four2 = c.clear_four-2 in
    (front_gone given.n given.numbers.now clear_four.new.a pre.numbers clear_four.ensures.0, front_gone given.n given.offs.now clear.new.table pre.offs clear.ensures, front_gone given.n given.places.now clear_four.new.b pre.places clear_four.ensures.1, front_gone given.n given.names.now clear_four.new.c pre.names clear_four.ensures.2, front_gone given.n given.live.now clear_four.new.d pre.live clear_four.ensures.3, front_gone given.n given.phi.now clear_four2.new.a pre.phi clear_four2.ensures.0, front_gone given.n given.roots.now clear_four2.new.b pre.roots clear_four2.ensures.1, front_gone given.n given.marks.now clear_four2.new.c pre.marks clear_four2.ensures.2, clear_four2.ensures.3)
