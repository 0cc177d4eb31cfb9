-- Stack offsets (c.rs, "Stack pointer offsets" and "Values holding stack addresses"; `stack_off`), and refusal 7 (D11).
-- An offset o between -(2^63 - 1) and 2^63 - 1 is the number o + 2^63; 0 says that none is known.
use Rattle.std.specs.Prelude.{Bool, true, false, not, cond, ◌&&◌, ◌||◌, List, [], ◌∷◌, ◌++◌, map, ℕ, zero, suc, ◌+◌, ◌-◌, eqb, ltb, length}
use Rattle.definition.specs.Texts.{txt, same}
use Rattle.definition.specs.Lists.{all, any, only, gather}
use Rattle.definition.specs.Values.{Value, value, eqv, RSP}
use Rattle.definition.specs.Ssa.{Expr, Kind, Phi, Block, Function}
use Rattle.definition.specs.Ssa.Expr.{Const, Use, Bin, Un, Load, Opaque}
use Rattle.definition.specs.Ssa.Kind.{Assign, Store, Call, Branch, Flags, Return, Other}

abbrev pub half : ℕ
half = 9223372036854775808

abbrev pub whole : ℕ
whole = 18446744073709551616

-- what is known: values with their offsets
pub record Known : Type 0 where
  pub of : Value
  pub offset : ℕ

unfoldable pub look : List Known → Value → ℕ
look [] v = 0
look (k ∷ t) v = cond (eqv k.of v) k.offset (look t v)

-- s and m more, none where nothing is known or the sum is outside; s and m less, which is 0 by itself where it is outside
unfoldable pub forth : ℕ → ℕ → ℕ
forth s m = cond (eqb s 0) 0 (cond (ltb (s + m) whole) (s + m) 0)

unfoldable pub back : ℕ → ℕ → ℕ
back s m = s - m

-- plus and minus the constant with the bits c
unfoldable pub plus : ℕ → ℕ → ℕ
plus s c = cond (ltb c half) (forth s c) (back s (whole - c))

unfoldable pub minus : ℕ → ℕ → ℕ
minus s c = cond (ltb c half) (back s c) (forth s (whole - c))

-- only the spellings `+` and `-` derive
unfoldable pub signed : ℕ → List ℕ → ℕ → ℕ
signed s o c = cond (same o (txt "+")) (plus s c) (cond (same o (txt "-")) (minus s c) 0)

-- the constant of a sum, with its base at s
unfoldable pub with_const : ℕ → List ℕ → Expr → ℕ
with_const s o (Const c) = signed s o c
with_const s o (Use v) = 0
with_const s o (Bin p a b) = 0
with_const s o (Un p a) = 0
with_const s o (Load n a) = 0
with_const s o (Opaque t) = 0

unfoldable pub sum : List Known → List ℕ → Expr → Expr → ℕ
sum t o (Const c) b = 0
sum t o (Use v) b = with_const (look t v) o b
sum t o (Bin p a c) b = 0
sum t o (Un p a) b = 0
sum t o (Load n a) b = 0
sum t o (Opaque x) b = 0

-- `stack_off`: the offset of an address expression, a known value or one plus or minus a constant
unfoldable pub stack_off : List Known → Expr → ℕ
stack_off t (Const c) = 0
stack_off t (Use v) = look t v
stack_off t (Bin o a b) = sum t o a b
stack_off t (Un o a) = 0
stack_off t (Load n a) = 0
stack_off t (Opaque x) = 0

-- the definitions in the order of the Rust's rounds: each block's phis, then its Assigns, dead ones too
pub data Def : Type 0 where
  by_phi : Value → List Value → Def
  by_expr : Value → Expr → Def

unfoldable pub phi_def : Phi → Def
phi_def p = by_phi (value p.var p.ver) (map (value p.var) p.inputs)

unfoldable pub stmt_def : Kind → List Def
stmt_def (Assign v e) = by_expr v e ∷ []
stmt_def (Store n a x) = []
stmt_def (Call t as' r c) = []
stmt_def (Branch c t us) = []
stmt_def (Flags t a b) = []
stmt_def (Return x) = []
stmt_def (Other t us ds) = []

unfoldable pub block_defs : Block → List Def
block_defs b = map phi_def b.phis ++ gather (λ s. stmt_def s.kind) b.stmts

unfoldable pub defined : Def → Value
defined (by_phi v ins) = v
defined (by_expr v e) = v

-- what a phi's inputs agree on: there is one, and all are known and equal
unfoldable pub agreed : List Known → List Value → ℕ
agreed t [] = 0
agreed t (v ∷ vs) = cond (all (λ w. eqb (look t w) (look t v)) vs) (look t v) 0

unfoldable pub rule : List Known → Def → ℕ
rule t (by_phi v ins) = agreed t ins
rule t (by_expr v e) = stack_off t e

-- one definition adds to the table what it derives, unless its value is known
unfoldable pub learn : List Known → Def → List Known
learn t d =
    let x = rule t d in
    cond (not (eqb (look t (defined d)) 0) || eqb x 0) t (record { of = defined d; offset = x } ∷ t)

unfoldable pub round : List Def → List Known → List Known
round [] t = t
round (d ∷ ds) t = round ds (learn t d)

unfoldable pub rounds : List Def → ℕ → List Known → List Known
rounds ds zero t = t
rounds ds (suc n) t = rounds ds n (round ds t)

-- one round more than there are definitions: more rounds change nothing
unfoldable pub closure : List Def → List Known → List Known
closure ds t = rounds ds (suc (length ds)) t

-- RSP first, then the other registers
unfoldable pub offsets : Function → List Known
offsets F =
    let ds = gather block_defs F.blocks in
    let own = closure (only (λ d. eqb (defined d).reg RSP) ds) (record { of = value RSP 0; offset = half } ∷ []) in
    closure (only (λ d. not (eqb (defined d).reg RSP)) ds) own

-- 7: a sum of a known value with a constant that is outside
unfoldable pub known : List Known → Expr → Bool
known t (Const c) = false
known t (Use v) = not (eqb (look t v) 0)
known t (Bin o a b) = false
known t (Un o a) = false
known t (Load n a) = false
known t (Opaque x) = false

unfoldable pub is_const : Expr → Bool
is_const (Const c) = true
is_const (Use v) = false
is_const (Bin o a b) = false
is_const (Un o a) = false
is_const (Load n a) = false
is_const (Opaque x) = false

unfoldable pub outside : List Known → Expr → Bool
outside t (Const c) = false
outside t (Use v) = false
outside t (Bin o a b) = (same o (txt "+") || same o (txt "-")) && known t a && is_const b && eqb (sum t o a b) 0
outside t (Un o a) = false
outside t (Load n a) = false
outside t (Opaque x) = false

unfoldable pub refused7 : List Known → List Expr → Bool
refused7 t es = any (outside t) es
