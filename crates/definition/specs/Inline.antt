-- How often each value is read, and the values written in place of their one use (c.rs, "How often each value is read", "Single-use values").
use Rattle.std.specs.Prelude.{Bool, true, false, not, cond, ◌&&◌, ◌||◌, List, [], ◌∷◌, ◌++◌, map, eqb}
use Rattle.definition.specs.Lists.{count, only, gather}
use Rattle.definition.specs.Values.{Value, value, eqv, within, RSP}
use Rattle.definition.specs.Ssa.{Expr, Kind, Stmt, Function, uses, stmts_of, phis_of}
use Rattle.definition.specs.Ssa.Expr.{Const, Use, Bin, Un, Load, Opaque}
use Rattle.definition.specs.Ssa.Kind.{Assign, Store, Call, Branch, Flags, Return, Other}

unfoldable pub live : List Stmt → List Stmt
live ss = only (λ s. not s.dead) ss

-- every value that a live statement reads, once for each time
unfoldable pub reads : Function → List Value
reads F = gather (λ s. uses s.kind) (live (stmts_of F))

-- every value that flows into a phi, dead or live
unfoldable pub phi_reads : Function → List Value
phi_reads F = gather (λ p. map (value p.var) p.inputs) (phis_of F)

-- what both say
pub record Reads : Type 0 where
  pub live : List Value
  pub phi : List Value

unfoldable pub reads_of : Function → Reads
reads_of F = record { live = reads F; phi = phi_reads F }

unfoldable pub has_load : Expr → Bool
has_load (Const c) = false
has_load (Use v) = false
has_load (Bin o a b) = has_load a || has_load b
has_load (Un o a) = has_load a
has_load (Load n a) = true
has_load (Opaque t) = false

-- a statement that may change memory, dead or live
unfoldable pub clobbers : Kind → Bool
clobbers (Assign v e) = false
clobbers (Store n a x) = true
clobbers (Call t as' r c) = true
clobbers (Branch c t us) = false
clobbers (Flags t a b) = false
clobbers (Return x) = false
clobbers (Other t us ds) = true

-- is v read by a live statement of these, with nothing before it that changes what v loads
unfoldable pub read_later : Value → Bool → List Stmt → Bool
read_later v loads [] = false
read_later v loads (s ∷ ss) =
    cond (not s.dead && within v (uses s.kind)) true (cond (loads && clobbers s.kind) false (read_later v loads ss))

-- a value and the expression that is written for it
pub record InPlace : Type 0 where
  pub of : Value
  pub expr : Expr

-- may v, which a live statement defines, be written in place: read once, by no phi
unfoldable pub read_once : Reads → Value → Bool
read_once R v = not (eqb v.reg RSP) && not (within v R.phi) && eqb (count (eqv v) R.live) 1

unfoldable pub place_kind : Reads → Kind → List Stmt → List InPlace
place_kind R (Assign v e) ss = cond (read_once R v && read_later v (has_load e) ss) (record { of = v; expr = e } ∷ []) []
place_kind R (Store n a x) ss = []
place_kind R (Call t as' r c) ss = []
place_kind R (Branch c t us) ss = []
place_kind R (Flags t a b) ss = []
place_kind R (Return x) ss = []
place_kind R (Other t us ds) ss = []

unfoldable pub placed : Reads → List Stmt → List InPlace
placed R [] = []
placed R (s ∷ ss) = cond s.dead [] (place_kind R s.kind ss) ++ placed R ss

-- all of them, in the order of their statements
unfoldable pub inline : Function → Reads → List InPlace
inline F R = gather (λ b. placed R b.stmts) F.blocks

unfoldable pub in_place : List InPlace → Value → Bool
in_place [] v = false
in_place (p ∷ ps) v = eqv p.of v || in_place ps v
