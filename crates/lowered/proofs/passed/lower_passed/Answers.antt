-- A refusal leaves the zeros that were given; else lowering writes: a sheet that is full is emptied and answers 8, any other holds the lines.
use Rattle.lowered.proofs.Writing.{refused, emptied, listed}
use Rattle.lowered.proofs.passed.lower_passed.Goals as goal

pub returns-then-n-ne0 : goal.returns-then-n-ne0
returns-then-n-ne0 c = let a = c.args in refused a.f.now a.n a.lines.now a.tokens.now a.text.now a.numbers.now a.offs.now a.places.now a.names.now a.live.now a.phi.now a.roots.now a.marks.now a.labels.now c.requires c.if-n-ne0.true

pub lower-out-requires : goal.lower-out-requires
lower-out-requires c = c.requires.given c.if-n-ne0.false

pub returns-then-out : goal.returns-then-out
returns-then-out c = let a = c.args in
    let w = c.lower-out in
    let z = c.clear_sheet in
    emptied a.f.now a.n a.lines.now a.tokens.now a.text.now a.numbers.now a.offs.now a.places.now a.names.now a.live.now a.phi.now a.roots.now a.marks.now a.labels.now c.requires c.if-n-ne0.false w.new.lines w.new.tokens w.new.text w.result w.ensures
    z.new.lines z.new.tokens z.new.text c.if-out.true w.auto.lines w.auto.tokens w.auto.text z.ensures

pub returns : goal.returns
returns c = let a = c.args in
    let w = c.lower-out in
    listed a.f.now a.n a.lines.now a.tokens.now a.text.now a.numbers.now a.offs.now a.places.now a.names.now a.live.now a.phi.now a.roots.now a.marks.now a.labels.now c.requires c.if-n-ne0.false w.new.lines w.new.tokens w.new.text w.result w.ensures c.if-out.false
