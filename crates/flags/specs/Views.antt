-- The code's types, read as the definition's or made of them.
use Rattle.std.specs.Prelude.{Option as Answer, Some, None, Bool, List, ℕ}
use Rattle.std.proofs.Math.Option.{Option, none, some}
use Rattle.definition.specs.Edition.{Edition}
use Rattle.definition.specs.Owners.{stmt_field}
use Rattle.definition.specs.Values.{value}
use Rattle.definition.specs.Ssa.{Expr}
use Rattle.definition.specs.Ssa.Expr.{Use as DUse}
use Rattle.definition.specs.Read.{tree_at, all_trees}
use Rattle.definition.specs.Condition as D
use Rattle.ssa.specs.View.{view_option}
use Rattle.flags.specs.declared.codes.Code.{Code}
use Rattle.flags.specs.declared.codes.Code.TheVariants.{E, Ne, L, Ge, G, Le, B, Ae, A, Be, S, Ns}
use Rattle.flags.specs.declared.comparison.Setter.{Setter}
use Rattle.flags.specs.declared.comparison.Setter.TheVariants.{Cmp, Test, Same, Result}
use Rattle.flags.specs.declared.comparison.Sign.{Sign}
use Rattle.flags.specs.declared.comparison.Sign.TheVariants.{Equal, Unequal, Under, NotUnder, Over, NotOver}
use Rattle.flags.specs.declared.comparison.Side.{Side}
use Rattle.flags.specs.declared.comparison.Side.TheVariants.{Left, Right, Difference, Both, Nought}
use Rattle.flags.specs.declared.comparison.Shown.{Shown}
use Rattle.flags.specs.declared.comparison.Setting.{Setting}
use Rattle.flags.specs.declared.comparison.Setting.TheVariants.{Operands, Result as ResultOf}

-- ---- codes
unfoldable pub code_one : D.Code → Code
code_one D.Code.e = E
code_one D.Code.ne = Ne
code_one D.Code.l = L
code_one D.Code.ge = Ge
code_one D.Code.g = G
code_one D.Code.le = Le
code_one D.Code.b = B
code_one D.Code.ae = Ae
code_one D.Code.a = A
code_one D.Code.be = Be
code_one D.Code.s = S
code_one D.Code.ns = Ns

unfoldable pub code_enum : Option D.Code → Answer Code
code_enum none = None
code_enum (some c) = Some (code_one c)

unfoldable pub view_code : Code → D.Code
view_code E = D.Code.e
view_code Ne = D.Code.ne
view_code L = D.Code.l
view_code Ge = D.Code.ge
view_code G = D.Code.g
view_code Le = D.Code.le
view_code B = D.Code.b
view_code Ae = D.Code.ae
view_code A = D.Code.a
view_code Be = D.Code.be
view_code S = D.Code.s
view_code Ns = D.Code.ns

-- ---- what is printed
unfoldable pub view_setter : Setter → D.Setter
view_setter Cmp = D.Setter.cmp
view_setter Test = D.Setter.test
view_setter Same = D.Setter.self
view_setter Result = D.Setter.result

unfoldable pub side_of : D.Side → Side
side_of D.Side.left = Left
side_of D.Side.right = Right
side_of D.Side.difference = Difference
side_of D.Side.both = Both
side_of D.Side.nought = Nought

unfoldable pub sign_of : D.Sign → Sign
sign_of D.Sign.equal = Equal
sign_of D.Sign.unequal = Unequal
sign_of D.Sign.under = Under
sign_of D.Sign.not_under = NotUnder
sign_of D.Sign.over = Over
sign_of D.Sign.not_over = NotOver

abbrev pub printed : Bool → Side → Sign → Side → Shown
printed u x o y = record { unsigned = u; lhs = x; sign = o; rhs = y }

abbrev pub shown_record : Option D.Shown → Answer Shown
shown_record none = None
shown_record (some p) = Some (printed p.unsigned (side_of p.lhs) (sign_of p.sign) (side_of p.rhs))

-- the comparison of a setter and a code; none of a text that is no code
unfoldable pub shown_by : D.Setter → Option D.Code → Option D.Shown
shown_by w none = none
shown_by w (some c) = D.shown w c

unfoldable pub shown_of : Setter → Answer Code → Option D.Shown
shown_of w c = shown_by (view_setter w) (view_option view_code c)

-- ---- what set the flags
unfoldable pub setting : D.Setter → Expr → Expr → Option D.Setting
setting w x y = some (record { by = w; first = x; second = y })

unfoldable pub view_setting : Edition → List ℕ → Answer Setting → Option D.Setting
view_setting K f None = none
view_setting K f (Some (Operands o)) = setting (view_setter o.by) (tree_at (all_trees K f) o.left) (tree_at (all_trees K f) o.right)
view_setting K f (Some (ResultOf i)) = let v = DUse (value (stmt_field f i 0) (stmt_field f i 1)) in setting D.Setter.result v v
