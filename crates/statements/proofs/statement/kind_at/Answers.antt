-- By the number of the kind: each of the six picks its own record, and any other number falls through every test to an Other.
use native.Mathlib.Omega.{arith}
use mathlib.Core.Path.{ap, ap₂, ◌∙◌}
use Rattle.statements.specs.Statement.{assign_of, store_of, flags_of, return_of, kind_by}
use Rattle.statements.specs.declared.statement.Kind.TheVariants.{Assign, Store, Call, Branch, Flags, Return}
use Rattle.statements.proofs.Laws.{same_three, same_call, same_branch, same_other, by_kind, by_none}
use Rattle.statements.proofs.statement.kind_at.Goals as goal

pub returns-in-1 : goal.returns-in-1
unfolding kind_by
returns-in-1 c = by_kind _ _ _ _ c.stmt_kind.ensures 1 _ c.in-1.is (ap Assign (c.assign_of.ensures ∙ same_three _ _ _ _ _ _ c.stmt_field-a.ensures c.stmt_field-b.ensures assign_of c.stmt_field-c.ensures))

pub returns-in-2 : goal.returns-in-2
unfolding kind_by
returns-in-2 c = by_kind _ _ _ _ c.stmt_kind.ensures 2 _ c.in-2.is (ap Store (c.store_of.ensures ∙ same_three _ _ _ _ _ _ c.stmt_field-a.ensures c.stmt_field-b.ensures store_of c.stmt_field-c.ensures))

pub returns-in-3 : goal.returns-in-3
unfolding kind_by
returns-in-3 c = by_kind _ _ _ _ c.stmt_kind.ensures 3 _ c.in-3.is (ap Call (c.call_of.ensures ∙ same_call _ _ _ _ _ _ c.stmt_field-a.ensures c.stmt_field-b.ensures _ _ _ _ _ _ _ _ c.expr_run.ensures c.stmt_field.ensures c.stmt_field-in-3.ensures c.stmt_field-in-3-2.ensures c.value_run.ensures))

pub returns-in-4 : goal.returns-in-4
unfolding kind_by
returns-in-4 c = by_kind _ _ _ _ c.stmt_kind.ensures 4 _ c.in-4.is (ap Branch (c.branch_of.ensures ∙ same_branch _ _ _ _ _ _ c.stmt_field-a.ensures c.stmt_field-b.ensures _ _ _ _ _ _ c.stmt_field-c.ensures c.stmt_field-in-4.ensures c.stmt_long.ensures c.expr_run-in-4.ensures))

pub returns-in-5 : goal.returns-in-5
unfolding kind_by
returns-in-5 c = by_kind _ _ _ _ c.stmt_kind.ensures 5 _ c.in-5.is (ap Flags (c.flags_of.ensures ∙ same_three _ _ _ _ _ _ c.stmt_field-a.ensures c.stmt_field-b.ensures flags_of c.stmt_field-c.ensures))

pub returns-in-6 : goal.returns-in-6
unfolding kind_by
returns-in-6 c = by_kind _ _ _ _ c.stmt_kind.ensures 6 _ c.in-6.is (ap Return (c.return_of.ensures ∙ ap₂ return_of c.stmt_field-a.ensures c.stmt_field-b.ensures))

pub returns-in_default : goal.returns-in_default
returns-in_default c = by_none _ _ _ _ c.stmt_kind.ensures _ (λ e. omega arith) (λ e. omega arith) (λ e. omega arith) (λ e. omega arith) (λ e. omega arith) (λ e. omega arith)
    (c.other_of.ensures ∙ same_other _ _ 0 _ _ 0 c.stmt_field-a.ensures c.stmt_field-b.ensures _ _ _ _ c.expr_run-in_default.ensures c.value_run-in_default.ensures)
