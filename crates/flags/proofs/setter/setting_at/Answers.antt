-- By the statement's kind: Flags compare two operands, an Assign gives its value unless that is RSP's, and no other kind sets any.
use borrow.Enum.Refused.{opened}
use Rattle.flags.proofs.Settings.{at_kind, at_none, at_assign}
use Rattle.flags.proofs.setter.setting_at.Goals as goal

pub returns-in-Flags : goal.returns-in-Flags
returns-in-Flags c = at_kind _ _ _ _ _ c.stmt_at.ensures _ _ c.in-Flags.is c.compared.ensures

pub returns-in-Assign : goal.returns-in-Assign
returns-in-Assign c = at_assign _ _ _ _ _ c.stmt_at.ensures _ c.in-Assign.is _ c.then_some.ensures

pub returns-in_default : goal.returns-in_default
returns-in_default c = at_none _ _ _ _ _ c.stmt_at.ensures (opened c.in_default.in_default-own.keys3)
