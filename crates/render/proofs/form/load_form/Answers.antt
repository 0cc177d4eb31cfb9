-- An address that is not lower is loaded through; a constant that names a global is that global; for any other its stack offset decides.
use Rattle.render.proofs.Formed.{load_high, load_global, load_slot}
use Rattle.render.proofs.form.load_form.Goals as goal

pub returns-then-a-n : goal.returns-then-a-n
returns-then-a-n c = load_high _ _ _ _ c.if-a-n.true

pub returns-then-names_global : goal.returns-then-names_global
returns-then-names_global c = load_global _ _ _ _ c.if-a-n.false _ c.names_global.ensures _ c.if-names_global.true c.expr_long.ensures

pub returns : goal.returns
returns c = load_slot _ _ _ _ c.if-a-n.false _ c.names_global.ensures _ _ _ _ c.if-names_global.false c.stack_off-o.ensures c.args.src.now.told.known c.by_offset.ensures
