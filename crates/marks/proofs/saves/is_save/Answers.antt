-- Only a Store of a callee_saved_lem register's entry value may be a save, and it is one exactly if its address has a stack offset.
use Rattle.marks.proofs.Saving.{save_other, save_none, save_there}
use Rattle.marks.proofs.saves.is_save.Goals as goal

pub returns-then-stmt_kind-ne-STORE : goal.returns-then-stmt_kind-ne-STORE
returns-then-stmt_kind-ne-STORE c = λ E k s e. save_other E _ k _ _ c.stmt_kind.ensures c.if-stmt_kind-ne-STORE.true

pub returns-then-is_saved : goal.returns-then-is_saved
returns-then-is_saved c = λ E k s e. save_there E _ k _ _ c.stmt_kind.ensures c.if-stmt_kind-ne-STORE.false _ _ c.stmt_field.ensures c.is_saved.ensures _ _ c.if-is_saved.true c.stmt_field-then-is_saved.ensures (c.stack_off.ensures E k s e)

pub returns : goal.returns
returns c = λ E k s e. save_none E _ k _ _ c.stmt_kind.ensures c.if-stmt_kind-ne-STORE.false _ _ c.stmt_field.ensures c.is_saved.ensures c.if-is_saved.false
