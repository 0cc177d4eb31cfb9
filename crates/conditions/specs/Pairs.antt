-- What set the flags as the code holds it, read as the definition's, and what is printed of it.
use Rattle.std.specs.Prelude.{Option as Answer, Some, None, ◌≡◌, false, List, map, ℕ}
use Rattle.std.proofs.Math.Option.{Option, none}
use Rattle.definition.specs.Edition.{Edition, statements}
use Rattle.definition.specs.Lists.{range}
use Rattle.definition.specs.Contents.{size, text}
use Rattle.definition.specs.Owners.{stmt_field}
use Rattle.definition.specs.Values.{value}
use Rattle.definition.specs.Ssa.{Expr}
use Rattle.definition.specs.Ssa.Expr.{Use}
use Rattle.definition.specs.Read.{tree_at, all_trees, stmt_at}
use Rattle.definition.specs.Tokens.{Token}
use Rattle.definition.specs.Render.{expr}
use Rattle.definition.specs.Condition.{Setting, code_of, last_setter, setter_of, comparison, condition_of}
use Rattle.ssa.specs.View.{view_option}
use Rattle.flags.specs.Views.{view_setter}
use Rattle.render.specs.Gens.{gen_at, used}
use Rattle.conditions.specs.declared.operands.Operand.{Operand}
use Rattle.conditions.specs.declared.operands.Operand.TheVariants.{Node, Assigned}
use Rattle.conditions.specs.declared.operands.Pair.{Pair}
use Rattle.conditions.specs.Assigns.{Assigns}

unfoldable pub operand_expr : Edition → List ℕ → Operand → Expr
operand_expr E f (Node n) = tree_at (all_trees E f) n
operand_expr E f (Assigned i) = Use (value (stmt_field f i 0) (stmt_field f i 1))

unfoldable pub view_pair : Edition → List ℕ → Pair → Setting
view_pair E f p = record { by = view_setter p.by; first = operand_expr E f p.left; second = operand_expr E f p.right }

unfoldable pub view_found : Edition → List ℕ → Answer Pair → Option Setting
view_found E f r = view_option (view_pair E f) r

-- an operand that is a statement's value is an Assign's
unfoldable pub Fit : List ℕ → Operand → Type 0
Fit f (Node n) = Unit {0}
Fit f (Assigned i) = Assigns f i

pub record Fits (f : List ℕ) (p : Pair) : Type 0 where
  pub left : Fit f p.left
  pub right : Fit f p.right

unfoldable pub FitsFound : List ℕ → Answer Pair → Type 0
FitsFound f None = Unit {0}
FitsFound f (Some p) = Fits f p

-- what `count` statements from `first` on set the flags by
pub record Set (f : List ℕ) (t first count : ℕ) (r : Answer Pair) : Type 0 where
  pub says : (E : Edition) → text E ≡ t → view_found E f r ≡ setter_of (last_setter none (map (stmt_at E f (all_trees E f)) (range first count)))
  pub fits : FitsFound f r

-- ---- what is printed, behind all statements
unfoldable pub assigned_tokens : Edition → List ℕ → ℕ → List Token
assigned_tokens E f i = used E f (size f statements) false (value (stmt_field f i 0) (stmt_field f i 1))

unfoldable pub operand_tokens : Edition → List ℕ → Operand → List Token
operand_tokens E f x = expr (gen_at E f (size f statements)) false (operand_expr E f x)

-- what was found and the code's text
unfoldable pub found_tokens : Edition → List ℕ → Answer Pair → List ℕ → List Token
found_tokens E f x cc = let s = view_found E f x in condition_of (gen_at E f (size f statements)) cc s (comparison s (code_of cc))
