-- By the number of the kind: Assign, Branch, Flags and Return leave memory as it is, and every other number counts as a change.
use native.Mathlib.Omega.{arith}
use Rattle.later.proofs.Changing.{assign_stays, between_stays, others_change}
use Rattle.later.proofs.changes_memory.Goals as goal

pub returns-in_default : goal.returns-in_default
returns-in_default c = others_change _ _ _ c.stmt_kind.ensures (λ e. omega arith) (λ a b. omega arith)

pub returns-in_default-2 : goal.returns-in_default-2
returns-in_default-2 c = others_change _ _ _ c.stmt_kind.ensures (λ e. omega arith) (λ a b. omega arith)

pub returns-in-1 : goal.returns-in-1
returns-in-1 c = assign_stays _ _ _ c.stmt_kind.ensures (omega arith)

pub returns-in-1-2 : goal.returns-in-1-2
returns-in-1-2 c = between_stays _ _ _ c.stmt_kind.ensures (omega arith) (omega arith)
