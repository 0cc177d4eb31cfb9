-- The code's records, read as the definition's: a text is its bytes, an expression's number its tree in t.
use Rattle.std.specs.Prelude.{Option as Answer, Some, None, List, map, ℕ}
use Rattle.std.proofs.Math.Option.{Option, none, some}
use Rattle.definition.specs.Edition.{Edition}
use Rattle.definition.specs.Lists.{range}
use Rattle.definition.specs.Contents.{text_at}
use Rattle.definition.specs.Ssa.{Expr, Block as DBlock}
use Rattle.definition.specs.Ssa.Expr.{Const as DConst, Use as DUse, Bin as DBin, Un as DUn, Load as DLoad, Opaque as DOpaque}
use Rattle.definition.specs.Read.{tree_at, stmt_at, phi_at}
use Rattle.defined.specs.Defined.{value_of}
use Rattle.ssa.specs.declared.parts.Text.{Text}
use Rattle.ssa.specs.declared.block.Block.{Block}
use Rattle.ssa.specs.declared.node.Node.{Node}
use Rattle.ssa.specs.declared.node.Node.TheVariants.{Const, Use, Bin, Un, Load, Opaque}

-- what the code has or not, as an option of the rules, read by g
abbrev pub view_option : {A B : Type 0} → (A → B) → Answer A → Option B
view_option g None = none
view_option g (Some x) = some (g x)

abbrev pub option_of : {A : Type 0} → Answer A → Option A
option_of o = view_option (λ x. x) o

abbrev pub view_text : Edition → List ℕ → Text → List ℕ
view_text E f t = text_at E f t.start t.len

-- a block whose phis and statements begin at `phi` and `stmt`
unfoldable pub view_block : Edition → List ℕ → List Expr → ℕ → ℕ → Block → DBlock
view_block E f t phi stmt b = record {
  start = b.start;
  taken = option_of b.taken;
  fall = option_of b.fall;
  phis = map (phi_at f) (range phi b.phis);
  stmts = map (stmt_at E f t) (range stmt b.stmts);
}

unfoldable pub view_node : Edition → List ℕ → List Expr → Node → Expr
view_node E f t (Const c) = DConst c
view_node E f t (Use v) = DUse (value_of v)
view_node E f t (Bin s) = DBin (view_text E f s.op) (tree_at t s.left) (tree_at t s.right)
view_node E f t (Un s) = DUn (view_text E f s.op) (tree_at t s.child)
view_node E f t (Load s) = DLoad s.size (tree_at t s.child)
view_node E f t (Opaque s) = DOpaque (view_text E f s)
