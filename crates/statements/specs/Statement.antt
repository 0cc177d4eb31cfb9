-- Statement i of the file as a value of the code's types, its list items beginning at `first`.
use Rattle.std.specs.Prelude.{Option, Bool, cond, List, ℕ, ◌/◌, ◌%◌, eqb}
use Rattle.std.specs.Bool.{then_some}
use Rattle.definition.specs.Codes.{k_assign, k_store, k_call, k_branch, k_flags, k_return, k_other}
use Rattle.definition.specs.Contents.{stmt_word, stmt_long}
use Rattle.definition.specs.Owners.{stmt_kind, stmt_field}
use Rattle.statements.specs.Items.{expr_run, value_run}
use Rattle.statements.specs.declared.items.Items.{Items}
use Rattle.statements.specs.declared.statement.Assign.{Assign as AssignS}
use Rattle.statements.specs.declared.statement.Store.{Store as StoreS}
use Rattle.statements.specs.declared.statement.Call.{Call as CallS}
use Rattle.statements.specs.declared.statement.Branch.{Branch as BranchS}
use Rattle.statements.specs.declared.statement.Flags.{Flags as FlagsS}
use Rattle.statements.specs.declared.statement.Other.{Other as OtherS}
use Rattle.statements.specs.declared.statement.Stmt.{Stmt}
use Rattle.statements.specs.declared.statement.Kind.{Kind}
use Rattle.statements.specs.declared.statement.Kind.TheVariants.{Assign, Store, Call, Branch, Flags, Return, Other}

-- each kind from the fields a b c .. and what only that kind has
abbrev pub assign_of : ℕ → ℕ → ℕ → AssignS
assign_of a b c = record { value = record { reg = a; ver = b }; expr = c }

abbrev pub store_of : ℕ → ℕ → ℕ → StoreS
store_of a b c = record { size = a; address = b; value = c }

abbrev pub call_of : ℕ → ℕ → Items → ℕ → ℕ → ℕ → Items → CallS
call_of a b args there reg ver clobbers = record {
  target = record { start = a; len = b };
  args = args;
  returned = then_some (eqb there 1) (record { reg = reg; ver = ver });
  clobbers = clobbers;
}

abbrev pub branch_of : ℕ → ℕ → ℕ → ℕ → ℕ → Items → BranchS
branch_of a b c there address uses = record {
  condition = then_some (eqb a 1) (record { start = b; len = c });
  target = then_some (eqb there 1) address;
  uses = uses;
}

abbrev pub flags_of : ℕ → ℕ → ℕ → FlagsS
flags_of a b c = record { test = eqb a 1; left = b; right = c }

abbrev pub return_of : ℕ → ℕ → Option ℕ
return_of a b = then_some (eqb a 1) b

abbrev pub other_of : ℕ → ℕ → Items → Items → OtherS
other_of a b uses defs = record { text = record { start = a; len = b }; uses = uses; defs = defs }

-- an Assign as it is read
abbrev pub assign_record : List ℕ → ℕ → AssignS
assign_record f i = assign_of (stmt_field f i 0) (stmt_field f i 1) (stmt_field f i 2)

-- statement i, were its kind k
unfoldable pub kind_by : List ℕ → ℕ → ℕ → ℕ → Kind
kind_by f i first k =
    let a = stmt_field f i 0 in
    let b = stmt_field f i 1 in
    let c = stmt_field f i 2 in
    cond (eqb k k_assign) (Assign (assign_of a b c))
    (cond (eqb k k_store) (Store (store_of a b c))
    (cond (eqb k k_call) (Call (call_of a b (expr_run f i first) (stmt_field f i 3) (stmt_field f i 4) (stmt_field f i 5) (value_run f i first)))
    (cond (eqb k k_branch) (Branch (branch_of a b c (stmt_field f i 3) (stmt_long f i 8) (expr_run f i first)))
    (cond (eqb k k_flags) (Flags (flags_of a b c))
    (cond (eqb k k_return) (Return (return_of a b))
    (Other (other_of a b (expr_run f i first) (value_run f i first))))))))

abbrev pub kind_record : List ℕ → ℕ → ℕ → Kind
kind_record f i first = kind_by f i first (stmt_kind f i)

-- the number that the file has for a kind
unfoldable pub kind_number : Kind → ℕ
kind_number (Assign s) = k_assign
kind_number (Store s) = k_store
kind_number (Call s) = k_call
kind_number (Branch s) = k_branch
kind_number (Flags s) = k_flags
kind_number (Return s) = k_return
kind_number (Other s) = k_other

unfoldable pub stmt_record : List ℕ → ℕ → ℕ → Stmt
stmt_record f i first = record { address = stmt_long f i 0; marks = stmt_word f i 2; kind = kind_record f i first }

-- mark m (1 dead, 2 flags, 4 push) of the marks w
unfoldable pub mark_of : ℕ → ℕ → Bool
mark_of w m = eqb (w / m % 2) 1
