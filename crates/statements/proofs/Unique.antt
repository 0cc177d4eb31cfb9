-- Each contract of this crate is an equation for the answer, so no second answer meets it.
use mathlib.Core.Path.{◌≡◌, sym, ◌∙◌}
use mathlib.Core.Bool.{Bool}
use mathlib.Core.List.{List}
use Prim.Native.Nat.{ℕ}
use Rattle.statements.specs.Statement.{stmt_record, mark_of}
use Rattle.statements.specs.declared.statement.Stmt.{Stmt}

pub stmt_at_lem : (f : List ℕ) (i first : ℕ) (r s : Stmt) → r ≡ stmt_record f i first → s ≡ stmt_record f i first → r ≡ s
stmt_at_lem f i first r s p q = p ∙ sym q

pub flags : (t : Stmt) (r s : Bool) → r ≡ mark_of t.marks 2 → s ≡ mark_of t.marks 2 → r ≡ s
flags t r s p q = p ∙ sym q
