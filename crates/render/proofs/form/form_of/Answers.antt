-- By the node of the record: each has its form, where a Bin's goes by its own stack offset and a Load's by its address.
use Rattle.render.proofs.Formed.{form_const, form_use, form_two, form_un, form_through, form_opaque}
use Rattle.render.proofs.form.form_of.Goals as goal

pub returns-in-Const : goal.returns-in-Const
returns-in-Const c = form_const _ _ _ _ c.node_at.ensures _ c.in-Const.is

pub returns-in-Use : goal.returns-in-Use
returns-in-Use c = form_use _ _ _ _ c.node_at.ensures _ c.in-Use.is

pub returns-in-Bin : goal.returns-in-Bin
returns-in-Bin c = form_two _ _ _ _ c.node_at.ensures _ _ _ _ _ c.in-Bin.is c.stack_off-o.ensures c.args.src.now.told.known c.by_offset.ensures

pub returns-in-Un : goal.returns-in-Un
returns-in-Un c = form_un _ _ _ _ c.node_at.ensures _ c.in-Un.is

pub returns-in-Load : goal.returns-in-Load
returns-in-Load c = form_through _ _ _ _ c.node_at.ensures _ _ c.in-Load.is c.load_form.ensures

pub returns-in-Opaque : goal.returns-in-Opaque
returns-in-Opaque c = form_opaque _ _ _ _ c.node_at.ensures _ c.in-Opaque.is
