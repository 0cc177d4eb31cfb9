-- An offset of 0 says that none is known, so the form is the other one; any other offset is the leaf's.
use borrow.Author.Tests.{ne_eqb}
use Rattle.render.specs.Forms.{offset_form}
use Rattle.render.proofs.form.by_offset.Goals as goal

pub returns-then-o-eq0 : goal.returns-then-o-eq0
unfolding offset_form
returns-then-o-eq0 c = rw c.if-o-eq0.true

pub returns : goal.returns
unfolding offset_form
returns c = rw (ne_eqb _ 0 c.if-o-eq0.false)
