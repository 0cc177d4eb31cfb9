-- By which leaf it is: the piece that is put is its token, or for a stack address both tokens, with texts out of the edition's section.
use Rattle.render.proofs.Written.{leaf_number, leaf_address, leaf_global, leaf_slot, leaf_opaque}
use Rattle.render.proofs.leaves.put_leaf.Goals as goal

pub returns-in-Number : goal.returns-in-Number
returns-in-Number c = λ E e. leaf_number _ _ E _ _ e _ _ c.in-Number.is c.put_num.ensures

pub returns-in-Address : goal.returns-in-Address
returns-in-Address c = λ E e. leaf_address _ _ E _ _ e _ _ c.in-Address.is c.put_address.ensures

pub returns-in-Global : goal.returns-in-Global
returns-in-Global c = λ E e. leaf_global _ _ E _ _ e _ _ c.in-Global.is c.put_global.ensures

pub returns-in-Slot : goal.returns-in-Slot
returns-in-Slot c = λ E e. leaf_slot _ _ E _ _ e _ _ c.in-Slot.is c.put_slot.ensures

pub returns-in-Opaque : goal.returns-in-Opaque
returns-in-Opaque c = λ E e. leaf_opaque _ _ E _ _ e _ _ c.in-Opaque.is c.put_text.ensures
