-- The code's statements, read as the definition's: an expression's number is its tree in t, a run of items the list of them.
use Rattle.std.specs.Prelude.{List, map, ℕ, ◌+◌}
use Rattle.definition.specs.Edition.{Edition}
use Rattle.definition.specs.Lists.{range}
use Rattle.definition.specs.Contents.{item_word}
use Rattle.definition.specs.Values.{Value as DValue, value}
use Rattle.definition.specs.Ssa.{Expr, Kind as DKind, Stmt as DStmt}
use Rattle.definition.specs.Ssa.Kind.{Assign as DAssign, Store as DStore, Call as DCall, Branch as DBranch, Flags as DFlags, Return as DReturn, Other as DOther}
use Rattle.definition.specs.Read.{tree_at}
use Rattle.defined.specs.Defined.{value_of}
use Rattle.ssa.specs.View.{option_of, view_option, view_text}
use Rattle.statements.specs.Statement.{mark_of}
use Rattle.statements.specs.declared.items.Items.{Items}
use Rattle.statements.specs.declared.statement.Stmt.{Stmt}
use Rattle.statements.specs.declared.statement.Kind.{Kind}
use Rattle.statements.specs.declared.statement.Kind.TheVariants.{Assign, Store, Call, Branch, Flags, Return, Other}

-- the expressions of a run, and its values
unfoldable pub view_exprs : List ℕ → List Expr → Items → List Expr
view_exprs f t r = map (tree_at t) (map (λ k. item_word f (r.first + k) 0) (range 0 r.count))

unfoldable pub view_values : List ℕ → Items → List DValue
view_values f r = map (λ k. value (item_word f (r.first + k) 0) (item_word f (r.first + k) 1)) (range 0 r.count)

unfoldable pub view_kind : Edition → List ℕ → List Expr → Kind → DKind
view_kind E f t (Assign s) = DAssign (value_of s.value) (tree_at t s.expr)
view_kind E f t (Store s) = DStore s.size (tree_at t s.address) (tree_at t s.value)
view_kind E f t (Call s) =
    DCall (view_text E f s.target) (view_exprs f t s.args) (view_option value_of s.returned) (view_values f s.clobbers)
view_kind E f t (Branch s) =
    DBranch (view_option (view_text E f) s.condition) (option_of s.target) (view_exprs f t s.uses)
view_kind E f t (Flags s) = DFlags s.test (tree_at t s.left) (tree_at t s.right)
view_kind E f t (Return s) = DReturn (view_option (tree_at t) s)
view_kind E f t (Other s) = DOther (view_text E f s.text) (view_exprs f t s.uses) (view_values f s.defs)

unfoldable pub view_stmt : Edition → List ℕ → List Expr → Stmt → DStmt
view_stmt E f t s = record {
  address = s.address;
  dead = mark_of s.marks 1;
  flags = mark_of s.marks 2;
  push = mark_of s.marks 4;
  kind = view_kind E f t s.kind;
}
