-- Names: parameters for argument registers' entry values, locals for the rest (c.rs, "Names"; document 01, "Naming goes phi, inputs, definitions, uses").
use Rattle.std.specs.Prelude.{Bool, true, false, not, cond, ◌&&◌, ◌||◌, List, [], ◌∷◌, ◌++◌, map, ℕ, suc, eqb}
use Rattle.std.proofs.Math.Option.{Option, none, some}
use Rattle.definition.specs.Texts.{txt}
use Rattle.definition.specs.Lists.{any, only, gather, has}
use Rattle.definition.specs.Values.{Value, value, eqv, RSP}
use Rattle.definition.specs.Ssa.{Kind, Phi, Block, Function, uses, defs, stmts_of}
use Rattle.definition.specs.Ssa.Kind.{Assign, Store, Call, Branch, Flags, Return, Other}
use Rattle.definition.specs.Classes.{Member, find}
use Rattle.definition.specs.Inline.{InPlace, in_place, live}
use Rattle.definition.specs.Registers.{reg_name}
use Rattle.definition.specs.Numbers.{decimal}

-- a call or a tail jump reads every argument register by convention; that makes no parameter
unfoldable pub by_convention : Kind → Bool
by_convention (Assign v e) = false
by_convention (Store n a x) = false
by_convention (Call t as' r c) = true
by_convention (Branch c t us) = true
by_convention (Flags t a b) = false
by_convention (Return x) = false
by_convention (Other t us ds) = false

-- the values whose version 0 is really read
unfoldable pub entry_reads : Function → List Value
entry_reads F = gather (λ s. uses s.kind) (only (λ s. not (by_convention s.kind)) (live (stmts_of F)))

-- the argument registers up to the last that is read: an argument implies the ones before it
unfoldable pub up_to_last : (ℕ → Bool) → List ℕ → List ℕ
up_to_last p [] = []
up_to_last p (a ∷ as') = cond (p a || any p as') (a ∷ up_to_last p as') []

unfoldable pub params : Function → List ℕ
params F = let rs = entry_reads F in up_to_last (λ a. any (eqv (value a 0)) rs) F.args

-- a value, or the root of a class, and its name
pub record Named : Type 0 where
  pub of : Value
  pub name : List ℕ

unfoldable pub name_in : List Named → Value → Option (List ℕ)
name_in [] v = none
name_in (n ∷ t) v = cond (eqv n.of v) (some n.name) (name_in t v)

-- what naming has so far: the classes met, the next number, the values named
pub record Naming : Type 0 where
  pub seen : List Named
  pub next : ℕ
  pub names : List Named

-- `a1`, `a2` .. from k on
unfoldable pub param_names : List Member → ℕ → List ℕ → List Named
param_names t k [] = []
param_names t k (a ∷ as') = record { of = find t (value a 0); name = txt "a" ++ decimal k } ∷ param_names t (suc k) as'

-- `name_of`: a class met first as its own version 0 has the register's name, else the next `v`
unfoldable pub meet : ℕ → Value → Value → Naming → Option (List ℕ) → Naming
meet bits k r N (some n) = record { seen = N.seen; next = N.next; names = record { of = k; name = n } ∷ N.names }
meet bits k r N none =
    let own = eqb k.ver 0 && eqv r k in
    let n = cond own (reg_name bits k.reg) (txt "v" ++ decimal N.next) in
    record {
      seen = record { of = r; name = n } ∷ N.seen;
      next = cond own N.next (suc N.next);
      names = record { of = k; name = n } ∷ N.names;
    }

unfoldable pub name_key : Function → List Member → List InPlace → Naming → Value → Naming
name_key F t ps N k =
    cond (eqb k.reg RSP || has (name_in N.names k) || in_place ps k) N
    (meet F.bits k (find t k) N (name_in N.seen (find t k)))

unfoldable pub name_keys : Function → List Member → List InPlace → Naming → List Value → Naming
name_keys F t ps N [] = N
name_keys F t ps N (k ∷ ks) = name_keys F t ps (name_key F t ps N k) ks

-- block by block: live phis and their inputs, then what live statements define and read
unfoldable pub phi_keys : Phi → List Value
phi_keys p = value p.var p.ver ∷ map (value p.var) p.inputs

unfoldable pub block_keys : Block → List Value
block_keys b =
    gather phi_keys (only (λ p. not (eqb p.var RSP) && not p.dead) b.phis)
    ++ gather (λ s. defs s.kind ++ uses s.kind) (live b.stmts)

unfoldable pub naming : Function → List Member → List InPlace → List Named
naming F t ps =
    (name_keys F t ps (record { seen = param_names t 1 (params F); next = 1; names = [] }) (gather block_keys F.blocks)).names
