-- The function in SSA form: the types of ssa.rs, and what a statement reads and defines (`Expr::uses`, `Kind::uses`, `Kind::defs_mut`).
use Rattle.std.specs.Prelude.{Bool, false, ◌&&◌, List, [], ◌∷◌, ◌++◌, ℕ, eqb}
use Rattle.std.proofs.Math.Option.{Option, none, some}
use Rattle.definition.specs.Texts.{same}
use Rattle.definition.specs.Lists.{gather}
use Rattle.definition.specs.Values.{Value, eqv}

-- a constant is its 64 bits
pub data Expr : Type 0 where
  Const : ℕ → Expr
  Use : Value → Expr
  Bin : List ℕ → Expr → Expr → Expr
  Un : List ℕ → Expr → Expr
  Load : ℕ → Expr → Expr
  Opaque : List ℕ → Expr

pub data Kind : Type 0 where
  Assign : Value → Expr → Kind
  Store : ℕ → Expr → Expr → Kind
  Call : List ℕ → List Expr → Option Value → List Value → Kind
  Branch : Option (List ℕ) → Option ℕ → List Expr → Kind
  Flags : Bool → Expr → Expr → Kind
  Return : Option Expr → Kind
  Other : List ℕ → List Expr → List Value → Kind

pub record Stmt : Type 0 where
  pub address : ℕ
  pub dead : Bool
  pub flags : Bool
  pub push : Bool
  pub kind : Kind

pub record Phi : Type 0 where
  pub var : ℕ
  pub ver : ℕ
  pub dead : Bool
  pub inputs : List ℕ

pub record Block : Type 0 where
  pub start : ℕ
  pub taken : Option ℕ
  pub fall : Option ℕ
  pub phis : List Phi
  pub stmts : List Stmt

-- a supplied name
pub record Name : Type 0 where
  pub address : ℕ
  pub text : List ℕ

-- the function with what the caller knows about it (`SsaFunction`, `COptions`)
pub record Function : Type 0 where
  pub bits : ℕ
  pub returns : Bool
  pub args : List ℕ
  pub blocks : List Block
  pub names : List Name

-- `==` of two expressions
unfoldable pub eqe : Expr → Expr → Bool
eqe (Const c) (Const d) = eqb c d
eqe (Const c) (Use w) = false
eqe (Const c) (Bin p x y) = false
eqe (Const c) (Un p x) = false
eqe (Const c) (Load n x) = false
eqe (Const c) (Opaque t) = false
eqe (Use v) (Const d) = false
eqe (Use v) (Use w) = eqv v w
eqe (Use v) (Bin p x y) = false
eqe (Use v) (Un p x) = false
eqe (Use v) (Load n x) = false
eqe (Use v) (Opaque t) = false
eqe (Bin o a b) (Const d) = false
eqe (Bin o a b) (Use w) = false
eqe (Bin o a b) (Bin p x y) = same o p && eqe a x && eqe b y
eqe (Bin o a b) (Un p x) = false
eqe (Bin o a b) (Load n x) = false
eqe (Bin o a b) (Opaque t) = false
eqe (Un o a) (Const d) = false
eqe (Un o a) (Use w) = false
eqe (Un o a) (Bin p x y) = false
eqe (Un o a) (Un p x) = same o p && eqe a x
eqe (Un o a) (Load n x) = false
eqe (Un o a) (Opaque t) = false
eqe (Load m a) (Const d) = false
eqe (Load m a) (Use w) = false
eqe (Load m a) (Bin p x y) = false
eqe (Load m a) (Un p x) = false
eqe (Load m a) (Load n x) = eqb m n && eqe a x
eqe (Load m a) (Opaque t) = false
eqe (Opaque s) (Const d) = false
eqe (Opaque s) (Use w) = false
eqe (Opaque s) (Bin p x y) = false
eqe (Opaque s) (Un p x) = false
eqe (Opaque s) (Load n x) = false
eqe (Opaque s) (Opaque t) = same s t

-- the values that an expression reads, from left to right
unfoldable pub expr_uses : Expr → List Value
expr_uses (Const c) = []
expr_uses (Use v) = v ∷ []
expr_uses (Bin o a b) = expr_uses a ++ expr_uses b
expr_uses (Un o a) = expr_uses a
expr_uses (Load n a) = expr_uses a
expr_uses (Opaque t) = []

unfoldable pub value_or : Option Value → List Value → List Value
value_or none vs = vs
value_or (some v) vs = v ∷ vs

unfoldable pub option_uses : Option Expr → List Value
option_uses none = []
option_uses (some e) = expr_uses e

unfoldable pub uses : Kind → List Value
uses (Assign v e) = expr_uses e
uses (Store n a x) = expr_uses a ++ expr_uses x
uses (Call t as' r c) = gather expr_uses as'
uses (Branch c t us) = gather expr_uses us
uses (Flags t a b) = expr_uses a ++ expr_uses b
uses (Return x) = option_uses x
uses (Other t us ds) = gather expr_uses us

-- the values that a statement defines
unfoldable pub defs : Kind → List Value
defs (Assign v e) = v ∷ []
defs (Store n a x) = []
defs (Call t as' r c) = value_or r c
defs (Branch c t us) = []
defs (Flags t a b) = []
defs (Return x) = []
defs (Other t us ds) = ds

-- all statements, block by block
unfoldable pub stmts_of : Function → List Stmt
stmts_of F = gather (λ b. b.stmts) F.blocks

unfoldable pub phis_of : Function → List Phi
phis_of F = gather (λ b. b.phis) F.blocks
