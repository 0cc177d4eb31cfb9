-- The condition that a branch tests (c.rs, `condition`), through the comparison that is printed: which relation, signed or not, of what.
use Rattle.std.specs.Prelude.{Bool, true, false, cond, List, [], ◌∷◌, ◌++◌, ℕ, eqb}
use Rattle.std.proofs.Math.Option.{Option, none, some}
use Rattle.definition.specs.Texts.{txt, same}
use Rattle.definition.specs.Values.{RSP}
use Rattle.definition.specs.Ssa.{Expr, Kind, Stmt, eqe}
use Rattle.definition.specs.Ssa.Expr.{Use}
use Rattle.definition.specs.Ssa.Kind.{Assign, Store, Call, Branch, Flags, Return, Other}
use Rattle.definition.specs.Tokens.{Token, keyword, punct}
use Rattle.definition.specs.Render.{Gen, expr}

-- the condition codes that `condition` knows
pub data Code : Type 0 where
  e ne l ge g le b ae a be s ns : Code

unfoldable pub code_of : List ℕ → Option Code
code_of t =
    cond (same t (txt "e")) (some e) (cond (same t (txt "ne")) (some ne)
    (cond (same t (txt "l")) (some l) (cond (same t (txt "ge")) (some ge)
    (cond (same t (txt "g")) (some g) (cond (same t (txt "le")) (some le)
    (cond (same t (txt "b")) (some b) (cond (same t (txt "ae")) (some ae)
    (cond (same t (txt "a")) (some a) (cond (same t (txt "be")) (some be)
    (cond (same t (txt "s")) (some s) (cond (same t (txt "ns")) (some ns) none)))))))))))

-- what set the flags: CMP, TEST, TEST of an operand and itself, or arithmetic on a value
pub data Setter : Type 0 where
  cmp test self result : Setter

-- the six signs
pub data Sign : Type 0 where
  equal unequal under not_under over not_over : Sign

-- what stands on either side
pub data Side : Type 0 where
  left right difference both nought : Side

pub record Shown : Type 0 where
  pub unsigned : Bool
  pub lhs : Side
  pub sign : Sign
  pub rhs : Side

abbrev plain : Side → Sign → Side → Option Shown
plain x o y = some (record { unsigned = false; lhs = x; sign = o; rhs = y })

abbrev above : Sign → Option Shown
above o = some (record { unsigned = true; lhs = left; sign = o; rhs = right })

unfoldable pub shown : Setter → Code → Option Shown
shown cmp e = plain left equal right
shown cmp ne = plain left unequal right
shown cmp l = plain left under right
shown cmp ge = plain left not_under right
shown cmp g = plain left over right
shown cmp le = plain left not_over right
shown cmp b = above under
shown cmp ae = above not_under
shown cmp a = above over
shown cmp be = above not_over
shown cmp s = plain difference under nought
shown cmp ns = plain difference not_under nought
shown test e = plain both equal nought
shown test ne = plain both unequal nought
shown test l = none
shown test ge = none
shown test g = none
shown test le = none
shown test b = none
shown test ae = none
shown test a = none
shown test be = none
shown test s = none
shown test ns = none
shown self e = plain left equal nought
shown self ne = plain left unequal nought
shown self l = none
shown self ge = none
shown self g = plain left over nought
shown self le = plain left not_over nought
shown self b = none
shown self ae = none
shown self a = none
shown self be = none
shown self s = plain left under nought
shown self ns = plain left not_under nought
shown result e = plain left equal nought
shown result ne = plain left unequal nought
shown result l = none
shown result ge = none
shown result g = none
shown result le = none
shown result b = none
shown result ae = none
shown result a = none
shown result be = none
shown result s = plain left under nought
shown result ns = plain left not_under nought

unfoldable pub sign_text : Sign → List ℕ
sign_text equal = txt " == "
sign_text unequal = txt " != "
sign_text under = txt " < "
sign_text not_under = txt " >= "
sign_text over = txt " > "
sign_text not_over = txt " <= "

-- a side's tokens, of the operands' tokens
unfoldable pub side_tokens : List Token → List Token → Side → List Token
side_tokens x y left = x
side_tokens x y right = y
side_tokens x y difference = punct (txt "(") ∷ (x ++ (punct (txt " - ") ∷ (y ++ (punct (txt ")") ∷ []))))
side_tokens x y both = punct (txt "(") ∷ (x ++ (punct (txt " & ") ∷ (y ++ (punct (txt ")") ∷ []))))
side_tokens x y nought = punct (txt "0") ∷ []

unfoldable pub unsigned_tokens : Bool → List Token
unsigned_tokens true = keyword (txt "(unsigned)") ∷ []
unsigned_tokens false = []

unfoldable pub shown_tokens : List Token → List Token → Shown → List Token
shown_tokens x y p =
    unsigned_tokens p.unsigned ++ side_tokens x y p.lhs ++ (punct (sign_text p.sign) ∷ side_tokens x y p.rhs)

-- a statement that set the flags, with its operands
pub record Setting : Type 0 where
  pub by : Setter
  pub first : Expr
  pub second : Expr

abbrev setting : Setter → Expr → Expr → Option Setting
setting w x y = some (record { by = w; first = x; second = y })

unfoldable pub setting_of : Kind → Option Setting
setting_of (Assign v x) = cond (eqb v.reg RSP) none (setting result (Use v) (Use v))
setting_of (Store n x y) = none
setting_of (Call t xs r c) = none
setting_of (Branch c t us) = none
setting_of (Flags false x y) = setting cmp x y
setting_of (Flags true x y) = cond (eqe x y) (setting self x y) (setting test x y)
setting_of (Return x) = none
setting_of (Other t us ds) = none

-- the block's last marked statement, wherever it stands
unfoldable pub last_setter : Option Kind → List Stmt → Option Kind
last_setter k [] = k
last_setter k (t ∷ ts) = last_setter (cond t.flags (some t.kind) k) ts

unfoldable pub setter_of : Option Kind → Option Setting
setter_of none = none
setter_of (some k) = setting_of k

unfoldable pub comparison : Option Setting → Option Code → Option Shown
comparison none c = none
comparison (some t) none = none
comparison (some t) (some c) = shown t.by c

unfoldable pub condition_of : Gen → List ℕ → Option Setting → Option Shown → List Token
condition_of G cc none p = keyword (txt "__flags_" ++ cc) ∷ []
condition_of G cc (some t) none = keyword (txt "__flags_" ++ cc) ∷ []
condition_of G cc (some t) (some p) = shown_tokens (expr G false t.first) (expr G false t.second) p

unfoldable pub condition : Gen → List Stmt → List ℕ → List Token
condition G ss cc =
    let t = setter_of (last_setter none ss) in
    condition_of G cc t (comparison t (code_of cc))
