-- Out of SSA: a phi and its inputs are one variable (c.rs, `Dsu`). A class's root is its least value; a value that no phi joins is its own.
use Rattle.std.specs.Prelude.{not, cond, List, [], ◌∷◌, map, eqb}
use Rattle.definition.specs.Lists.{only, gather}
use Rattle.definition.specs.Values.{Value, value, eqv, lesser, greater, RSP}
use Rattle.definition.specs.Ssa.{Phi, Function, phis_of}

-- a value and the root of its class
pub record Member : Type 0 where
  pub of : Value
  pub root : Value

-- `find`
unfoldable pub find : List Member → Value → Value
find [] v = v
find (m ∷ t) v = cond (eqv m.of v) m.root (find t v)

-- two values that a phi joins
pub record Pair : Type 0 where
  pub left : Value
  pub right : Value

unfoldable pub pairs : Phi → List Pair
pairs p = map (λ n. record { left = value p.var p.ver; right = value p.var n }) p.inputs

-- in a class whose root was `from` it is now `to`
unfoldable pub relabel : Value → Value → Member → Member
relabel from to m = record { of = m.of; root = cond (eqv m.root from) to m.root }

-- `union`: the greater root gives way to the lesser
unfoldable pub union : List Member → Pair → List Member
union t p =
    let a = find t p.left in
    let b = find t p.right in
    map (relabel (greater a b) (lesser a b)) t

unfoldable pub unions : List Member → List Pair → List Member
unions t [] = t
unions t (p ∷ ps) = unions (union t p) ps

-- each value alone
unfoldable pub alone : Pair → List Member
alone p = record { of = p.left; root = p.left } ∷ record { of = p.right; root = p.right } ∷ []

-- the classes that the phis make, RSP's left out
unfoldable pub classes : Function → List Member
classes F =
    let ps = gather pairs (only (λ p. not (eqb p.var RSP)) (phis_of F)) in
    unions (gather alone ps) ps
